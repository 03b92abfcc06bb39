-- The calls of a handle are on its channel, by the channel's form.
use Rattle.std.specs.Prelude.{◌≡◌, Option, None, IsSome}
use Rattle.async_channel.specs.Handles.{Handle}
use Rattle.async_channel.specs.declared.by_form.Calls.{Calls}
use Rattle.async_channel.specs.declared.by_form.Calls.TheVariants.{Witnessed, Traced}

module _ {T R K : Type 0} where
  abbrev pub AreCallsOf : Handle → Calls T R K → Type 0
  AreCallsOf h (Witnessed calls) = (calls ≡ h) × IsSome h.table
  AreCallsOf h (Traced calls) = (calls ≡ h) × (h.table ≡ None)
