-- What is said of a call by the form of its channel.
use Rattle.std.proofs.Common.{◌≡◌, Option, None, Some, sym, subst}
use Rattle.std.specs.Prelude.{MatchOption}
use Rattle.atomic_table.specs.Seated.{TableId}
use Rattle.channel_calls.specs.declared.ask.ChannelAsk.{ChannelAsk}
use Rattle.channel_calls.specs.declared.reply.Reply.{Reply}
use Rattle.channel_cells.specs.Calls.{HasCalled}
use Rattle.channel_history.specs.Party.{fresh}
use Rattle.channel_history.specs.declared.party.Standing.{Standing}
use Rattle.event_listener.specs.declared.waking.Task.{Task}
use Rattle.async_channel.specs.Called.{WasCalled}
use Rattle.async_channel.specs.Parties.{Seat}

module _ (A : Type 0) (P : TableId → Type 0) where
  -- of one without a bound
  pub without : (table : Option TableId) → table ≡ None → A → MatchOption table A P
  without table none a = subst (λ (t : Option TableId). MatchOption t A P) (sym none) a

  -- and with one
  pub with_bound : (table : Option TableId) (id : TableId) → table ≡ Some id → P id → MatchOption table A P
  with_bound table id is p = subst (λ (t : Option TableId). MatchOption t A P) (sym is) p

-- a new party made a call, of which the watch was told, and this is its answer
pub told_so : {T A : Type 0} (X : Type 0) (called : Seat T → Type 0) (table : Option TableId) (id : TableId) (s : Standing T Task) (a : ChannelAsk T Task) (of : A → Reply T) (answer given : A) (seat : Seat T)
    → table ≡ Some id → s ≡ fresh → answer ≡ given → called seat → HasCalled id s a (of given) seat → MatchOption table X (λ t. WasCalled called t a (of answer))
told_so X called table id s a of answer given seat is new same told h =
    with_bound X _ table id is (seat, told, subst (λ x. HasCalled id fresh a (of x) seat) (sym same) (subst (λ x. HasCalled id x a (of given) seat) new h))
