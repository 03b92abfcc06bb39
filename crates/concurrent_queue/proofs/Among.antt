-- Where a merge of calls has come, each party's call is under way among those of all others.
use Rattle.std.proofs.Common.{◌≡◌, ◌⊎◌, ℕ, suc, ◌≤◌, ◌^◌, ◌==◌, Bool, true, false, List, [], ◌∷◌, ◌++◌, length, map, Option, None, Some, slice_get, if◌then◌else◌, inl, inr, refl, sym, ap, ◌∙◌, subst, arith, append-nil}
use Rattle.concurrent_queue.specs.Bridge.{Event, begins, does, Happening, asking, Acts, left_under_way, EventsLead, own, InOneOrder, steps_of, Caller, caller_party, caller_seat, IsRunOf}
use Rattle.concurrent_queue.specs.Capacity.{capacity_of}
use Rattle.concurrent_queue.specs.Contents.{Contents}
use Rattle.concurrent_queue.specs.Deeds.{Notes}
use Rattle.concurrent_queue.specs.Made.{new_cells}
use Rattle.concurrent_queue.specs.Parties.{call_under, id_of, under_way_of}
use Rattle.concurrent_queue.specs.Run.{IsCounted, accepted_in, one_if_accepted}
use Rattle.concurrent_queue.specs.Step.{ActiveQueueCall, seat, FitsAt}
use Rattle.concurrent_queue.specs.Touched.{IsOneOf, PartiesAreAmongOthers}
use Rattle.concurrent_queue.specs.Walked.{CallMakes}
use Rattle.concurrent_queue.specs.declared.call.QueueEntry.{QueueEntry}
use Rattle.concurrent_queue.specs.declared.call.QueueMark.{QueueMark}
use Rattle.concurrent_queue.specs.declared.call.QueueMark.TheVariants.{Append, Replace}
use Rattle.concurrent_queue.specs.declared.call.QueueReply.{QueueReply}
use Rattle.concurrent_queue.specs.declared.cells.QueueForm.{QueueForm}
use Rattle.concurrent_queue.specs.declared.queue_call.QueueCall.{QueueCall}
use Rattle.concurrent_queue.specs.declared.run.Party.{Party}
use Rattle.concurrent_queue.specs.declared.run.QueueStep.{QueueStep}
use Rattle.concurrent_queue.proofs.Bridge.{change_keeps_form, new_is, merges_are_runs, events_lead_to_one_place}
use Rattle.concurrent_queue.proofs.Callers.{is_same, place_of, has_at}
use Rattle.concurrent_queue.proofs.Runs.{map_join, split}

one_at_most : (m : QueueMark) → one_if_accepted m ≤ 1
one_at_most Append = omega arith
one_at_most Replace = omega arith
one_at_most m = omega arith

module _ {T : Type 0} where
  -- whose machine was led somewhere has acted, with some replies
  acts_so : (form : QueueForm) (at : Option (QueueCall T)) (xs : List (Event T)) (to : Option (QueueCall T)) → EventsLead form at xs to → (replies : List (QueueReply T)) × Acts form at xs replies
  acts_so form at [] to h = ([], refl)
  acts_so form None (begins a ∷ xs) to h = acts_so form (Some (asking a)) xs to h
  acts_so form None (does o ∷ xs) to h = absurd h
  acts_so form (Some call) (begins a ∷ xs) to h = absurd h
  acts_so form (Some call) (does o ∷ xs) to (next, answer, made, h) = goes_on answer made (acts_so form (left_under_way next answer) xs to h)
    where
      goes_on : (r : Option (QueueReply T)) → CallMakes Notes form None call o next r
          → (replies : List (QueueReply T)) × Acts form (left_under_way next r) xs replies → (replies : List (QueueReply T)) × Acts form (Some call) (does o ∷ xs) replies
      goes_on None made g = (g.0, (next, None, made, g.1))
      goes_on (Some r) made g = (r ∷ g.0, (next, Some r, made, (g.0, refl, g.1)))

  order_keeps_form : (xs : List (Happening T)) (c d : Contents T) → InOneOrder xs c d → d.form ≡ c.form
  order_keeps_form [] c d same = ap (λ (x : Contents T). x.form) same
  order_keeps_form (x ∷ xs) c d (m, change, order) = order_keeps_form xs m d order ∙ change_keeps_form c m x.event change

  -- no more were accepted than events happened
  accepted_few : (es : List (QueueEntry T)) → accepted_in es ≤ length es
  accepted_few [] = omega arith
  accepted_few (e ∷ es) = omega (arith, one_at_most e.mark, accepted_few es)

  as_many : (xs : List (Happening T)) → length (steps_of xs) ≡ length xs
  as_many [] = refl
  as_many (x ∷ xs) = omega (arith, as_many xs)

  is_counted : (form : QueueForm) (events : List (Happening T)) (replies : ℕ → List (QueueReply T)) (last : Contents T) (run : IsRunOf form events replies last)
      → (capacity_of form ≡ Some 1) ⊎ (length events ≤ 2 ^ 61) → IsCounted form run.trace
  is_counted form events replies last run (inl one) = inl one
  is_counted form events replies last run (inr few) =
      let made : length run.ran.made ≡ length events =
      ap (λ (ss : List (QueueStep T)). length ss) (sym (run.ran.first ∙ append-nil run.ran.made)) ∙ as_many events in
      inr (omega (arith, accepted_few run.trace, run.ran.entries, made, few))

  -- ---- one among others, in a list of callers

  -- who isn't there in the midst is beside
  beside : (q : ℕ) (l r : List (Party T)) (x : Party T) → (x.id ≡ q → ⊥) → call_under id_of under_way_of q (l ++ x ∷ r) ≡ call_under id_of under_way_of q (l ++ r)
  beside q [] r x differs = test (x.id == q) refl
    where
      test : (b : Bool) → (x.id == q) ≡ b → (if x.id == q then Some x.call else call_under id_of under_way_of q r) ≡ call_under id_of under_way_of q r
      test true e = absurd (differs (is_same x.id q e))
      test false e = rw e refl
  beside q (y ∷ l) r x differs = ap (λ (o : Option (QueueCall T)). if y.id == q then Some y.call else o) (beside q l r x differs)

  is_one_of : (q : ℕ) (other : QueueCall T) (xs : List (Caller T)) → call_under id_of under_way_of q (map caller_party xs) ≡ Some other → IsOneOf other (map caller_seat xs)
  is_one_of q other [] e = absurd cc
  is_one_of q other (x ∷ xs) e = test (x.party.id == q) refl (λ f. is_one_of q other xs f)
    where
      test : (b : Bool) → (x.party.id == q) ≡ b → (call_under id_of under_way_of q (map caller_party xs) ≡ Some other → IsOneOf other (map caller_seat xs)) → IsOneOf other (map caller_seat (x ∷ xs))
      test true f rest =
          let g : Some x.party.call ≡ Some other = subst (λ (b : Bool). (if b then Some x.party.call else call_under id_of under_way_of q (map caller_party xs)) ≡ Some other) f e in
          let h : x.party.call ≡ other = cc in
          (0, x.phase, ap (λ (c : QueueCall T). Some (seat c x.phase)) h)
      test false f rest =
          let g = rest (subst (λ (b : Bool). (if b then Some x.party.call else call_under id_of under_way_of q (map caller_party xs)) ≡ Some other) f e) in
          (suc g.0, g.1, g.2)

  pub parties_are_among_others : PartiesAreAmongOthers T
  parties_are_among_others form events last at h p call is =
      let acts = λ (q : ℕ). acts_so form None (own q events) (at q) (h.led q) in
      let run : IsRunOf form events (λ q. (acts q).0) last = merges_are_runs form events (λ q. (acts q).0) last h.has (λ q. (acts q).1) h.order in
      let counted = is_counted form events (λ q. (acts q).0) last run h.lasts in
      let under = run.under_way counted in
      let stands : (q : ℕ) → call_under id_of under_way_of q run.parties ≡ at q =
      λ q. events_lead_to_one_place form None (own q events) (at q) (call_under id_of under_way_of q run.parties) (h.led q) (run.stands q) in
      let there = has_at id_of under_way_of p run.parties call (stands p ∙ is) in
      let s = split caller_party under.callers (place_of id_of under_way_of p run.parties) there.0
      (subst (λ (ps : List (Party T)). slice_get ps (place_of id_of under_way_of p run.parties) ≡ Some there.0) (sym under.parties_are) there.1) in
      let seats : map caller_seat under.callers ≡ map caller_seat s.left ++ caller_seat s.mine ∷ map caller_seat s.right =
      ap (λ (xs : List (Caller T)). map caller_seat xs) s.there ∙ map_join caller_seat s.left (s.mine ∷ s.right) in
      let parties : run.parties ≡ map caller_party s.left ++ caller_party s.mine ∷ map caller_party s.right =
      sym under.parties_are ∙ ap (λ (xs : List (Caller T)). map caller_party xs) s.there ∙ map_join caller_party s.left (s.mine ∷ s.right) in
      let mine : s.mine.party.call ≡ call = ap (λ (x : Party T). x.call) s.is ∙ there.3 in
      let whose : s.mine.party.id ≡ p = ap (λ (x : Party T). x.id) s.is ∙ there.2 in
      let config = (run.ran.run counted).last in
      let fits : FitsAt config.chain last config.scene.now (map caller_seat s.left ++ caller_seat s.mine ∷ map caller_seat s.right) =
      subst (λ (ss : List (ActiveQueueCall T)). FitsAt config.chain last config.scene.now ss) seats
      (subst (λ (c : Contents T). FitsAt config.chain c config.scene.now (map caller_seat under.callers)) (run.cells counted) under.fits) in (
        map caller_seat s.left ++ map caller_seat s.right,
        order_keeps_form events (new_cells form) last h.order ∙ (new_is form h.has).0,
        record {
          chain = config.chain;
          queue = config.scene.now;
          phase = s.mine.phase;
          before = map caller_seat s.left;
          behind = map caller_seat s.right;
          others_are = refl;
          fits = subst (λ (x : QueueCall T). FitsAt config.chain last config.scene.now (map caller_seat s.left ++ seat x s.mine.phase ∷ map caller_seat s.right)) mine fits;
        },
        λ q other apart e.
            let found : call_under id_of under_way_of q (map caller_party (s.left ++ s.right)) ≡ Some other =
            ap (call_under id_of under_way_of q) (map_join caller_party s.left s.right)
            ∙ sym (beside q (map caller_party s.left) (map caller_party s.right) s.mine.party (λ f. apart (sym whose ∙ f)))
            ∙ ap (call_under id_of under_way_of q) (sym parties) ∙ stands q ∙ e in
            subst (λ (ss : List (ActiveQueueCall T)). IsOneOf other ss) (map_join caller_seat s.left s.right) (is_one_of q other (s.left ++ s.right) found),
      )
