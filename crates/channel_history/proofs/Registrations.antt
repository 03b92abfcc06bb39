-- Each that has a listener was told, or waits.
use Rattle.std.proofs.Common.{◌≡◌, ◌≤◌, ◌⊎◌, inl, inr, ⊎_elim, Bool, true, false, List, [], ◌∷◌, if◌then◌else◌, is_some, refl, sym, ap, arith}
use Rattle.std.specs.Prelude.{Option, None, Some}
use Rattle.event_listener.specs.Lists.{same_key, told_as, waits_as, kind_of}
use Rattle.event_listener.specs.declared.key.Key.{Key}
use Rattle.channel_calls.specs.Parts.{Listeners}
use Rattle.channel_steps.specs.every_run.Closed.{one_if}
use Rattle.channel_steps.specs.every_run.Waits.{IsIn}
use Rattle.channel_history.specs.History.{total, is_listener, is_key, times}
use Rattle.channel_history.specs.Registrations.{IsMissing, PendingWaitRightly, RegistrationsAreLive}
use Rattle.channel_history.specs.Says.{RestSays}
use Rattle.channel_history.specs.declared.party.Standing.{Standing}
use Rattle.channel_history.proofs.Passing.{listed_at_head}
use Rattle.channel_history.proofs.Saying.{nobody_is_missed_at_rest}
use Rattle.channel_calls.specs.declared.stage.WaitList.{WaitList}
use Rattle.channel_calls.specs.declared.stage.WaitList.TheVariants.{Sends, Receives, Streams, Closings}
use Rattle.channel_history.proofs.Times.{same_is, absent}
use Rattle.channel_history.proofs.Together.{total_has}

module _ {W : Type 0} where
  is_in : (key : Key) (es : List (Key × Option W)) → 1 ≤ total (is_key key) es → IsIn key es
  is_in key [] e = absurd (omega (arith, e))
  is_in key (x ∷ xs) e = by (is_in key xs) (same_key key x.0) refl where
    by : (1 ≤ total (is_key key) xs → IsIn key xs) → (b : Bool) → same_key key x.0 ≡ b → IsIn key (x ∷ xs)
    by more true same = inl (sym (same_is key x.0 same))
    by more false other = let none = ap one_if other in inr (more (omega (arith, e, none)))

  told_or_waits : (key : Key) (l : Listeners W) → 1 ≤ times key l → (kind_of l key ≡ Some true) ⊎ IsIn key l.waiting
  told_or_waits key l there = by (is_some (told_as l key)) refl where
    by : (a : Bool) → is_some (told_as l key) ≡ a → ((if a then Some true else (if is_some (waits_as l key) then Some false else None)) ≡ Some true) ⊎ IsIn key l.waiting
    by true e = inl refl
    by false e = let none = absent key l.told e in inr (is_in key l.waiting (omega (arith, there, none)))

pub registrations_are_live : (T W : Type 0) → RegistrationsAreLive T W
registrations_are_live T W form views cells senders receivers h line key =
    let lie = h.lie in
    record {
      is = lie.listed line key;
      once = lie.once line key;
      live = λ p v others there has.
          let least = total_has (λ (s : Standing T W). total (is_listener line key) s.own.listeners) views p v there in
          let here = listed_at_head line key v.own.listeners others has in
          let all = lie.listed line key in
          told_or_waits key (h.listening line) (omega (arith, least, here, all));
    }

pub pending_wait_rightly : (T W : Type 0) → PendingWaitRightly T W
pending_wait_rightly T W form views cells senders receivers h says rest p v line key others there has =
    let mine = registrations_are_live T W form views cells senders receivers h line key in
    ⊎_elim (λ e. inl e) (λ waits. inr (let at_rest = rests in at_rest.closing line key waits, by line waits)) (mine.live p v others there has)
  where
    rests : RestSays form views cells senders receivers h says
    rests = nobody_is_missed_at_rest T W form views cells senders receivers h says rest

    by : (x : WaitList) → IsIn key (let l = h.listening x in l.waiting) → IsMissing form views cells senders receivers h x
    by Sends waits = let at_rest = rests in at_rest.sends key waits
    by Receives waits = let at_rest = rests in at_rest.receives key waits
    by Streams waits = let at_rest = rests in at_rest.streams key waits
    by Closings waits = tt
