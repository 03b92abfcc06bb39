-- Calls that walk their machines over cells in one order make a run.
use Rattle.std.proofs.Common.{◌≡◌, ℕ, zero, suc, ◌<◌, ◌≤◌, ◌^◌, ◌==◌, Bool, true, false, List, [], ◌∷◌, ◌++◌, map, Option, None, Some, MatchOption, option_to_list, slice_get, slice_set, if◌then◌else◌, refl, sym, ap, ◌∙◌, subst, arith, append_assoc, append-nil}
use Rattle.std.specs.List.{remove}
use Rattle.concurrent_queue.specs.Bridge.{Event, begins, does, Happening, asking, Acts, left_under_way, EventsLead, own, Changes, InOneOrder, step_of, steps_of, replies_to, Caller, caller_party, caller_seat, asked_by, seen_asking, AreUnderWay, HasCells, MergesAreRuns, EventsLeadToOnePlace, Along, WalksAct}
use Rattle.concurrent_queue.specs.Contents.{Contents}
use Rattle.concurrent_queue.specs.Deeds.{Deed, Notes, Move, loads, stores, exchanges, adds, sets_bits, keeps_bits, puts, takes, spares, retires, rests, Makes}
use Rattle.concurrent_queue.specs.Effects.{Does, does_keep_form}
use Rattle.concurrent_queue.specs.Made.{IsNew, new_cells}
use Rattle.concurrent_queue.specs.Parties.{call_under, id_of, under_way_of, party, Turns, parties_after}
use Rattle.concurrent_queue.specs.Step.{ActiveQueueCall, FitsAt, IsQueueStep}
use Rattle.concurrent_queue.specs.Tracked.{one_state}
use Rattle.concurrent_queue.specs.Walked.{MakesBlocks, MakesBounded, MakesFirst, StateMakes, CallMakes}
use Rattle.concurrent_queue.specs.machine.FastPath.{Leads}
use Rattle.concurrent_queue.specs.machine.BlocksMakes.{blocks_moves}
use Rattle.concurrent_queue.specs.machine.BlocksWords.{begin}
use Rattle.concurrent_queue.specs.machine.Dispatch.{ring_cap}
use Rattle.concurrent_queue.specs.machine.RingMade.{empty_ring}
use Rattle.concurrent_queue.specs.machine.RingMoves.{ring_moves}
use Rattle.concurrent_queue.specs.machine.RingWords.{cap_of, ring_mark, ring_start}
use Rattle.concurrent_queue.specs.machine.Single.{single_moves, start}
use Rattle.concurrent_queue.specs.declared.call.QueueAsk.{QueueAsk}
use Rattle.concurrent_queue.specs.declared.call.QueueEntry.{QueueEntry}
use Rattle.concurrent_queue.specs.declared.call.QueueMark.{QueueMark}
use Rattle.concurrent_queue.specs.declared.call.QueueMark.TheVariants.{Nothing}
use Rattle.concurrent_queue.specs.declared.call.QueueReply.{QueueReply}
use Rattle.concurrent_queue.specs.declared.call.Stepped.{Stepped}
use Rattle.concurrent_queue.specs.declared.cells.QueueForm.{QueueForm}
use Rattle.concurrent_queue.specs.declared.cells.QueueForm.TheVariants.{Bounded, Unbounded}
use Rattle.concurrent_queue.specs.declared.queue_call.CallState.{CallState}
use Rattle.concurrent_queue.specs.declared.queue_call.CallState.TheVariants.{Asked, Single, Ring, Blocks, Finished}
use Rattle.concurrent_queue.specs.declared.queue_call.QueueCall.{QueueCall}
use Rattle.concurrent_queue.specs.declared.run.Party.{Party}
use Rattle.concurrent_queue.specs.declared.run.QueueStep.{QueueStep}
use Rattle.concurrent_queue.specs.declared.run.QueueStep.TheVariants.{Begin, Step}
use Rattle.concurrent_queue.specs.declared.unbounded.action.UnboundedCall.{UnboundedCall}
use Rattle.concurrent_queue.proofs.BridgeSteps.{state_made}
use Rattle.concurrent_queue.proofs.Callers.{is_same, is_other, itself, either, place_of, AllApart, none_has, has_at, begun_mine, begun_other, begun_apart, set_mine, set_other, set_apart, gone_other, gone_mine, gone_apart}
use Rattle.concurrent_queue.proofs.FitsFacts.{starts, is_queue_step, fits_one_slot, fits_ring, fits_blocks}
use Rattle.concurrent_queue.proofs.Noted.{note_state}
use Rattle.concurrent_queue.proofs.PartyFacts.{stepped}
use Rattle.concurrent_queue.proofs.Runs as runs
use Rattle.concurrent_queue.proofs.Runs.{ActiveQueueCallWitness, HasRun, IsRunning, running_start, running_more, at}

-- ---- operations lead to one place

module _ {T : Type 0} where
  abbrev left_by : Stepped (CallState T) T → Option (QueueCall T)
  left_by s = left_under_way (record { state = s.action; mark = s.mark }) s.reply

  pub events_lead_to_one_place : EventsLeadToOnePlace T
  events_lead_to_one_place form at [] to other h g = g ∙ sym h
  events_lead_to_one_place form None (begins a ∷ xs) to other h g = events_lead_to_one_place form (Some (asking a)) xs to other h g
  events_lead_to_one_place form None (does o ∷ xs) to other h g = absurd h
  events_lead_to_one_place form (Some call) (begins a ∷ xs) to other h g = absurd h
  events_lead_to_one_place form (Some call) (does o ∷ xs) to other (next, answer, made, h) (next', answer', made', g) =
      let x : Stepped (CallState T) T = record { action = next.state; mark = next.mark; reply = answer } in
      let y : Stepped (CallState T) T = record { action = next'.state; mark = next'.mark; reply = answer' } in
      events_lead_to_one_place form (left_under_way next answer) xs to other h
      (subst (λ (at : Option (QueueCall T)). EventsLead form at xs other) (ap left_by (one_state form call.state o x y made made')) g)

-- ---- a step whose operation was noted, over cells that the operation changes

module _ {T : Type 0} (c d : Contents T) where
  noted : {A : Type 0} (m : Move T A) (r : A) (o : Option (Deed T)) → Makes Notes m None r o → Changes (does o) c d → Makes Does m c r d
  noted (loads w k) r o (x, n, e) h = (x, subst (λ (y : Option (Deed T)). Changes (does y) c d) n h, e)
  noted (stores w x a) r o (n, e) h = (subst (λ (y : Option (Deed T)). Changes (does y) c d) n h, e)
  noted (exchanges w x y k) r o (z, n, e) h = (z, subst (λ (y : Option (Deed T)). Changes (does y) c d) n h, e)
  noted (adds w x k) r o (z, n, e) h = (z, subst (λ (y : Option (Deed T)). Changes (does y) c d) n h, e)
  noted (sets_bits w x k) r o (z, n, e) h = (z, subst (λ (y : Option (Deed T)). Changes (does y) c d) n h, e)
  noted (keeps_bits w x k) r o (z, n, e) h = (z, subst (λ (y : Option (Deed T)). Changes (does y) c d) n h, e)
  noted (puts at v k) r o (z, n, e) h = (z, subst (λ (y : Option (Deed T)). Changes (does y) c d) n h, e)
  noted (takes at k) r o (z, n, e) h = (z, subst (λ (y : Option (Deed T)). Changes (does y) c d) n h, e)
  noted (spares k) r o (z, n, e) h = (z, subst (λ (y : Option (Deed T)). Changes (does y) c d) n h, e)
  noted (retires b a) r o (n, e) h = (subst (λ (y : Option (Deed T)). Changes (does y) c d) n h, e)
  noted (rests a) r o (n, e) h = (subst (λ (y : Option (Deed T)). Changes (does y) c d) n h, e)

  bounded_noted : (b : Bool) (cap : ℕ) (a : QueueAsk T) (o : Option (Deed T)) (r : Stepped (CallState T) T) → MakesBounded Notes b cap None a o r → Changes (does o) c d → MakesBounded Does b cap c a d r
  bounded_noted true cap a o r (x, h, e) g = (x, noted (single_moves (start a)) x o h g, e)
  bounded_noted false cap a o r (x, h, e) g = (x, noted (ring_moves cap (ring_mark cap) (ring_start a)) x o h g, e)

  blocks_noted : (a : UnboundedCall T) (o : Option (Deed T)) (r : Stepped (CallState T) T) → MakesBlocks Notes None a o r → Changes (does o) c d → MakesBlocks Does c a d r
  blocks_noted a o r (x, (p, h, f), e) g = (x, (p, noted (blocks_moves a.action) p o h g, f), e)

  first_noted : (form : QueueForm) (a : QueueAsk T) (o : Option (Deed T)) (r : Stepped (CallState T) T) → MakesFirst Notes form None a o r → Changes (does o) c d → MakesFirst Does form c a d r
  first_noted (Bounded cap) a o r h g = bounded_noted (cap == 1) (cap_of cap) a o r h g
  first_noted Unbounded a o r h g = blocks_noted (begin a) o r h g

  state_noted : (form : QueueForm) (at : CallState T) (o : Option (Deed T)) (r : Stepped (CallState T) T) → StateMakes Notes form None at o r → Changes (does o) c d → StateMakes Does form c at d r
  state_noted form (Asked a) o r h g = first_noted form a o r h g
  state_noted form (Single a) o r (x, h, e) g = (x, noted (single_moves a) x o h g, e)
  state_noted form (Ring a) o r (x, h, e) g = (x, noted (ring_moves (ring_cap form) (ring_mark (ring_cap form)) a) x o h g, e)
  state_noted form (Blocks a) o r h g = blocks_noted a o r h g
  state_noted form Finished o r (n, e) g = (subst (λ (y : Option (Deed T)). Changes (does y) c d) n g, e)

  -- a party's step is one of the contract
  pub call_noted : (form : QueueForm) (call : QueueCall T) (o : Option (Deed T)) (next : QueueCall T) (answer : Option (QueueReply T)) → c.form ≡ form
      → CallMakes Notes form None call o next answer → Changes (does o) c d → IsQueueStep c call d next answer
  call_noted form call o next answer e h g =
      let s : Stepped (CallState T) T = record { action = next.state; mark = next.mark; reply = answer } in
      is_queue_step c call d s (state_made c d s form call.state e (state_noted form call.state o s h g))

  pub change_keeps_form : (x : Event T) → Changes x c d → d.form ≡ c.form
  change_keeps_form (begins a) e = ap (λ (y : Contents T). y.form) e
  change_keeps_form (does None) e = ap (λ (y : Contents T). y.form) e
  change_keeps_form (does (Some x)) h = does_keep_form x c d h

-- ---- which call each party has under way

module _ {T : Type 0} where
  party_is : (x : Party T) (p : ℕ) (call : QueueCall T) → x.id ≡ p → x.call ≡ call → x ≡ party p call
  party_is x p call e f = ap (λ (n : ℕ). party n x.call) e ∙ ap (λ (c : QueueCall T). party p c) f

  has_party : (p : ℕ) (xs : List (Party T)) (call : QueueCall T) → call_under id_of under_way_of p xs ≡ Some call → slice_get xs (place_of id_of under_way_of p xs) ≡ Some (party p call)
  has_party p xs call e = let h = has_at id_of under_way_of p xs call e in h.1 ∙ ap (λ (x : Party T). Some x) (party_is h.0 p call h.2 h.3)

-- ---- a new queue

module _ {T : Type 0} where
  ring_cells : (cap : ℕ) → (cap == 1) ≡ false → empty_ring {T = T} cap ≡ new_cells (Bounded cap)
  ring_cells cap e = rw e refl

  new_bounded : (cap : ℕ) → 0 < cap → cap ≤ 2 ^ 58 → (b : Bool) → (cap == 1) ≡ b → IsNew {T = T} (Bounded cap) (new_cells (Bounded cap))
  new_bounded cap some most true e = subst (λ (n : ℕ). IsNew {T = T} (Bounded n) (new_cells (Bounded n))) (sym (is_same cap 1 e)) (refl, fits_one_slot T, refl)
  new_bounded cap some most false e =
      let more : cap ≡ 1 → ⊥ = is_other cap 1 e in
      subst (λ (c : Contents T). IsNew {T = T} (Bounded cap) c) (ring_cells cap e) (refl, fits_ring T cap (omega (arith, more)) most, ring_cells cap e)

  pub new_is : (form : QueueForm) → HasCells form → IsNew {T = T} form (new_cells form)
  new_is (Bounded cap) (some, most) = new_bounded cap some most (cap == 1) refl
  new_is Unbounded h = (refl, fits_blocks T, refl)

-- ---- the merge

module _ {T : Type 0} (form : QueueForm) where
  -- what the run is that goes on so
  pub record Merged (steps : List (QueueStep T)) (events : List (Happening T)) (trace : List (QueueEntry T)) (before : List (Party T)) (replies : ℕ → List (QueueReply T)) (last : Contents T) : Type 0 where
    pub more : List (QueueEntry T)
    pub parties : List (Party T)
    pub running : IsRunning form steps [] (trace ++ more) last parties
    pub answers : (p : ℕ) → replies_to p events more ≡ replies p
    pub stands : (p : ℕ) → EventsLead form (call_under id_of under_way_of p before) (own p events) (call_under id_of under_way_of p parties)

  abbrev Act : List (Party T) → List (Happening T) → (ℕ → List (QueueReply T)) → Type 0
  Act parties events replies = (p : ℕ) → Acts form (call_under id_of under_way_of p parties) (own p events) (replies p)

  -- how the run goes on behind one event
  abbrev GoesOn : List (QueueStep T) → List (Happening T) → Contents T → Type 0
  GoesOn steps xs last =
      (trace : List (QueueEntry T)) (c : Contents T) (parties : List (Party T)) (replies : ℕ → List (QueueReply T))
      → c.form ≡ form → IsRunning form steps (steps_of xs) trace c parties → AllApart id_of under_way_of parties → Act parties xs replies → InOneOrder xs c last → Merged steps xs trace parties replies last

  abbrev unmarked : QueueEntry T
  unmarked = record { mark = Nothing; reply = None }

  abbrev happens : ℕ → Event T → Happening T
  happens p x = record { party = p; event = x }

  own_mine : (p : ℕ) (x : Event T) (xs : List (Happening T)) → own p (happens p x ∷ xs) ≡ x ∷ own p xs
  own_mine p x xs = rw (itself p) refl

  own_other : (p q : ℕ) (x : Event T) (xs : List (Happening T)) → (p == q) ≡ false → own q (happens p x ∷ xs) ≡ own q xs
  own_other p q x xs e = rw e refl

  -- the others go on as before
  acts_after : (p : ℕ) (x : Event T) (xs : List (Happening T)) (before after : List (Party T)) (replies left : ℕ → List (QueueReply T)) → Act before (happens p x ∷ xs) replies
      → Acts form (call_under id_of under_way_of p after) (own p xs) (left p) → ((q : ℕ) → (p == q) ≡ false → call_under id_of under_way_of q after ≡ call_under id_of under_way_of q before) → ((q : ℕ) → (p == q) ≡ false → left q ≡ replies q) → Act after xs left
  acts_after p x xs before after replies left acts mine calls same q = test (p == q) refl
    where
      test : (b : Bool) → (p == q) ≡ b → Acts form (call_under id_of under_way_of q after) (own q xs) (left q)
      test true e = subst (λ (n : ℕ). Acts form (call_under id_of under_way_of n after) (own n xs) (left n)) (is_same p q e) mine
      test false e =
          subst (λ (rs : List (QueueReply T)). Acts form (call_under id_of under_way_of q after) (own q xs) rs) (sym (same q e))
          (subst (λ (o : Option (QueueCall T)). Acts form o (own q xs) (replies q)) (sym (calls q e))
          (subst (λ (ys : List (Event T)). Acts form (call_under id_of under_way_of q before) ys (replies q)) (own_other p q x xs e) (acts q)))

  -- and stand where they stood
  led_after : (p : ℕ) (x : Event T) (xs : List (Happening T)) (before after last : List (Party T)) → EventsLead form (call_under id_of under_way_of p before) (x ∷ own p xs) (call_under id_of under_way_of p last)
      → ((q : ℕ) → (p == q) ≡ false → call_under id_of under_way_of q after ≡ call_under id_of under_way_of q before)
      → (q : ℕ) → EventsLead form (call_under id_of under_way_of q after) (own q xs) (call_under id_of under_way_of q last)
      → EventsLead form (call_under id_of under_way_of q before) (own q (happens p x ∷ xs)) (call_under id_of under_way_of q last)
  led_after p x xs before after last mine calls q further = test (p == q) refl
    where
      test : (b : Bool) → (p == q) ≡ b → EventsLead form (call_under id_of under_way_of q before) (own q (happens p x ∷ xs)) (call_under id_of under_way_of q last)
      test true e =
          subst (λ (n : ℕ). EventsLead form (call_under id_of under_way_of n before) (own n (happens p x ∷ xs)) (call_under id_of under_way_of n last)) (is_same p q e)
          (subst (λ (ys : List (Event T)). EventsLead form (call_under id_of under_way_of p before) ys (call_under id_of under_way_of p last)) (sym (own_mine p x xs)) mine)
      test false e =
          subst (λ (ys : List (Event T)). EventsLead form (call_under id_of under_way_of q before) ys (call_under id_of under_way_of q last)) (sym (own_other p q x xs e))
          (subst (λ (o : Option (QueueCall T)). EventsLead form o (own q xs) (call_under id_of under_way_of q last)) (calls q e) further)

  joined : (steps : List (QueueStep T)) (p : ℕ) (x : Event T) (xs : List (Happening T)) (trace : List (QueueEntry T)) (e : QueueEntry T) (before after : List (Party T)) (replies left : ℕ → List (QueueReply T)) (last : Contents T)
      → Merged steps xs (trace ++ e ∷ []) after left last → ((q : ℕ) → (if p == q then option_to_list e.reply ++ left q else left q) ≡ replies q)
      → ((to : Option (QueueCall T)) → EventsLead form (call_under id_of under_way_of p after) (own p xs) to → EventsLead form (call_under id_of under_way_of p before) (x ∷ own p xs) to)
      → ((q : ℕ) → (p == q) ≡ false → call_under id_of under_way_of q after ≡ call_under id_of under_way_of q before)
      → Merged steps (happens p x ∷ xs) trace before replies last
  joined steps p x xs trace e before after replies left last m same mine calls =
      record {
        more = e ∷ m.more;
        parties = m.parties;
        running = subst (λ (es : List (QueueEntry T)). IsRunning form steps [] es last m.parties) (append_assoc trace (e ∷ []) m.more) m.running;
        answers = λ q. ap (λ (rs : List (QueueReply T)). if p == q then option_to_list e.reply ++ rs else rs) (m.answers q) ∙ same q;
        stands = λ q. led_after p x xs before after m.parties (mine (call_under id_of under_way_of p m.parties) (m.stands p)) calls q (m.stands q);
      }

  -- a call begins
  idle : (at : Option (QueueCall T)) (a : QueueAsk T) (ys : List (Event T)) (rs : List (QueueReply T)) → Acts form at (begins a ∷ ys) rs → (at ≡ None) × Acts form (Some (asking a)) ys rs
  idle None a ys rs h = (refl, h)
  idle (Some call) a ys rs h = absurd h

  begun : (p : ℕ) (a : QueueAsk T) (xs : List (Happening T)) (steps : List (QueueStep T)) (trace : List (QueueEntry T)) (c d last : Contents T) (parties : List (Party T)) (replies : ℕ → List (QueueReply T))
      → c.form ≡ form → IsRunning form steps (Begin p a ∷ steps_of xs) trace c parties → AllApart id_of under_way_of parties → Act parties (happens p (begins a) ∷ xs) replies → d ≡ c → InOneOrder xs d last → GoesOn steps xs last
      → Merged steps (happens p (begins a) ∷ xs) trace parties replies last
  begun p a xs steps trace c d last parties replies f r apart acts same order on =
      let mine = idle (call_under id_of under_way_of p parties) a (own p xs) (replies p) (subst (λ (ys : List (Event T)). Acts form (call_under id_of under_way_of p parties) ys (replies p)) (own_mine p (begins a) xs) (acts p)) in
      let after : List (Party T) = parties ++ party p (asking a) ∷ [] in
      let turns : Turns (Begin p a) c parties unmarked d after = (asking a, starts a Nothing, none_has id_of under_way_of p parties mine.0, refl, same, refl) in
      let here : Acts form (call_under id_of under_way_of p after) (own p xs) (replies p) = subst (λ (o : Option (QueueCall T)). Acts form o (own p xs) (replies p)) (sym (begun_mine id_of under_way_of p parties (party p (asking a)) refl mine.0)) mine.1 in
      let there = begun_mine id_of under_way_of p parties (party p (asking a)) refl mine.0 in
      joined steps p (begins a) xs trace unmarked parties after replies replies last
      (on (trace ++ unmarked ∷ []) d after replies (ap (λ (y : Contents T). y.form) same ∙ f)
      (running_more form steps (Begin p a ∷ steps_of xs) trace c parties (steps_of xs) (trace ++ unmarked ∷ []) d after r (Begin p a, refl, (unmarked, refl, turns)))
      (begun_apart id_of under_way_of p parties (party p (asking a)) refl mine.0 apart)
      (acts_after p (begins a) xs parties after replies replies acts here (λ q e. begun_other id_of under_way_of p q parties (party p (asking a)) refl e) (λ q e. refl))
      order)
      (λ q. either (p == q) (replies q))
      (λ to h. subst (λ (o : Option (QueueCall T)). EventsLead form o (begins a ∷ own p xs) to) (sym mine.0) (subst (λ (o : Option (QueueCall T)). EventsLead form o (own p xs) to) there h))
      (λ q e. begun_other id_of under_way_of p q parties (party p (asking a)) refl e)

  -- a call makes a step
  busy : (at : Option (QueueCall T)) (o : Option (Deed T)) (ys : List (Event T)) (rs : List (QueueReply T)) → Acts form at (does o ∷ ys) rs
      → (call : QueueCall T) × (at ≡ Some call) × Acts form (Some call) (does o ∷ ys) rs
  busy None o ys rs h = absurd h
  busy (Some call) o ys rs h = (call, refl, h)

  module _ (p : ℕ) (o : Option (Deed T)) (xs : List (Happening T)) (steps : List (QueueStep T)) (trace : List (QueueEntry T)) (c d last : Contents T) (parties : List (Party T)) (replies : ℕ → List (QueueReply T))
      (f : c.form ≡ form) (r : IsRunning form steps (Step p ∷ steps_of xs) trace c parties) (apart : AllApart id_of under_way_of parties) (acts : Act parties (happens p (does o) ∷ xs) replies)
      (change : Changes (does o) c d) (order : InOneOrder xs d last) (on : GoesOn steps xs last) (call next : QueueCall T) (there : call_under id_of under_way_of p parties ≡ Some call) where
    abbrev k : ℕ
    k = place_of id_of under_way_of p parties

    abbrev entry : Option (QueueReply T) → QueueEntry T
    entry answer = record { mark = next.mark; reply = answer }

    ran_on : (answer : Option (QueueReply T)) → CallMakes Notes form None call o next answer
        → IsRunning form steps (steps_of xs) (trace ++ entry answer ∷ []) d (parties_after parties k (party p next) answer)
    ran_on answer made =
        let has = has_party p parties call there in
        let step : IsQueueStep c call d next answer = call_noted c d form call o next answer f made change in
        let turns : Turns (Step p) c parties (entry answer) d (parties_after parties k (party p next) answer) =
        (k, (call, has), stepped c d parties (parties_after parties k (party p next) answer) k (party p call) next answer next.mark has step refl refl) in
        running_more form steps (Step p ∷ steps_of xs) trace c parties (steps_of xs) (trace ++ entry answer ∷ []) d (parties_after parties k (party p next) answer) r (Step p, refl, (entry answer, refl, turns))

    same_form : d.form ≡ form
    same_form = change_keeps_form c d (does o) change ∙ f

    led_on : (answer : Option (QueueReply T)) (to : Option (QueueCall T)) → CallMakes Notes form None call o next answer → EventsLead form (left_under_way next answer) (own p xs) to
        → EventsLead form (call_under id_of under_way_of p parties) (does o ∷ own p xs) to
    led_on answer to made h = subst (λ (y : Option (QueueCall T)). EventsLead form y (does o ∷ own p xs) to) (sym there) (next, answer, made, h)

    made_on : (answer : Option (QueueReply T)) → CallMakes Notes form None call o next answer
        → MatchOption answer (Acts form (Some next) (own p xs) (replies p)) (λ x. (more : List (QueueReply T)) × (replies p ≡ x ∷ more) × Acts form None (own p xs) more)
        → Merged steps (happens p (does o) ∷ xs) trace parties replies last
    made_on None made goes =
        let after : List (Party T) = slice_set parties k (party p next) in
        let here : Acts form (call_under id_of under_way_of p after) (own p xs) (replies p) = subst (λ (y : Option (QueueCall T)). Acts form y (own p xs) (replies p)) (sym (set_mine id_of under_way_of p parties call (party p next) refl there)) goes in
        joined steps p (does o) xs trace (entry None) parties after replies replies last
        (on (trace ++ entry None ∷ []) d after replies same_form (ran_on None made) (set_apart id_of under_way_of p parties (party p next) refl apart)
        (acts_after p (does o) xs parties after replies replies acts here (λ q e. set_other id_of under_way_of p q parties (party p next) refl e) (λ q e. refl))
        order)
        (λ q. either (p == q) (replies q))
        (λ to h. led_on None to made (subst (λ (y : Option (QueueCall T)). EventsLead form y (own p xs) to) (set_mine id_of under_way_of p parties call (party p next) refl there) h))
        (λ q e. set_other id_of under_way_of p q parties (party p next) refl e)
    made_on (Some x) made (more, is, goes) =
        let after : List (Party T) = remove parties k in
        let left : ℕ → List (QueueReply T) = λ q. if p == q then more else replies q in
        let mine : left p ≡ more = rw (itself p) refl in
        let here : Acts form (call_under id_of under_way_of p after) (own p xs) (left p) =
        subst (λ (rs : List (QueueReply T)). Acts form (call_under id_of under_way_of p after) (own p xs) rs) (sym mine)
        (subst (λ (y : Option (QueueCall T)). Acts form y (own p xs) more) (sym (gone_mine id_of under_way_of p parties apart)) goes) in
        joined steps p (does o) xs trace (entry (Some x)) parties after replies left last
        (on (trace ++ entry (Some x) ∷ []) d after left same_form (ran_on (Some x) made) (gone_apart id_of under_way_of p parties apart)
        (acts_after p (does o) xs parties after replies left acts here (λ q e. gone_other id_of under_way_of p q parties e) (λ q e. rw e refl))
        order)
        (λ q. told q (p == q) refl)
        (λ to h. led_on (Some x) to made (subst (λ (y : Option (QueueCall T)). EventsLead form y (own p xs) to) (gone_mine id_of under_way_of p parties apart) h))
        (λ q e. gone_other id_of under_way_of p q parties e)
      where
        told : (q : ℕ) (b : Bool) → (p == q) ≡ b → (if p == q then x ∷ (if p == q then more else replies q) else (if p == q then more else replies q)) ≡ replies q
        told q true e = rw e (sym is ∙ ap replies (is_same p q e))
        told q false e = rw e refl

  happened : (x : Happening T) (xs : List (Happening T)) (steps : List (QueueStep T)) (trace : List (QueueEntry T)) (c d last : Contents T) (parties : List (Party T)) (replies : ℕ → List (QueueReply T))
      → (y : Event T) → c.form ≡ form → IsRunning form steps (step_of x.party y ∷ steps_of xs) trace c parties → AllApart id_of under_way_of parties → Act parties (happens x.party y ∷ xs) replies
      → Changes y c d → InOneOrder xs d last → GoesOn steps xs last → Merged steps (happens x.party y ∷ xs) trace parties replies last
  happened x xs steps trace c d last parties replies (begins a) f r apart acts change order on = begun x.party a xs steps trace c d last parties replies f r apart acts change order on
  happened x xs steps trace c d last parties replies (does o) f r apart acts change order on =
      let p = x.party in
      let mine = busy (call_under id_of under_way_of p parties) o (own p xs) (replies p) (subst (λ (ys : List (Event T)). Acts form (call_under id_of under_way_of p parties) ys (replies p)) (own_mine p (does o) xs) (acts p)) in
      made_on p o xs steps trace c d last parties replies f r apart acts change order on mine.0 mine.2.0 mine.1 mine.2.1 mine.2.2 mine.2.3

  merge : (events : List (Happening T)) (steps : List (QueueStep T)) (last : Contents T) → GoesOn steps events last
  merge [] steps last trace c parties replies f r apart acts order =
      record {
        more = [];
        parties = parties;
        running = subst (λ (es : List (QueueEntry T)). IsRunning form steps [] es last parties) (sym (append-nil trace)) (subst (λ (x : Contents T). IsRunning form steps [] trace x parties) (sym order) r);
        answers = λ p. sym (acts p);
        stands = λ p. refl;
      }
  merge (x ∷ xs) steps last trace c parties replies f r apart acts (d, change, order) =
      happened x xs steps trace c d last parties replies x.event f r apart acts change order (merge xs steps last)

-- ---- who is under way at its end

module _ {T : Type 0} where
  abbrev caller_of : ActiveQueueCallWitness T → Caller T
  caller_of x = record { party = x.party; phase = x.phase }

  parties_of : (xs : List (ActiveQueueCallWitness T)) → map caller_party (map caller_of xs) ≡ map runs.party_of xs
  parties_of [] = refl
  parties_of (x ∷ xs) = ap (λ (ps : List (Party T)). x.party ∷ ps) (parties_of xs)

  seats_of : (xs : List (ActiveQueueCallWitness T)) → map caller_seat (map caller_of xs) ≡ map runs.seat_of xs
  seats_of [] = refl
  seats_of (x ∷ xs) = ap (λ (ss : List (ActiveQueueCall T)). runs.seat_of x ∷ ss) (seats_of xs)

  asked_of : (xs : List (ActiveQueueCallWitness T)) → map seen_asking (map runs.under_of xs) ≡ map asked_by (map caller_of xs)
  asked_of [] = refl
  asked_of (x ∷ xs) = ap (λ (ss : List (ℕ × QueueAsk T)). (x.party.id, x.phase.ask) ∷ ss) (asked_of xs)

  are_under_way : (form : QueueForm) (made : List (QueueStep T)) (c : Contents T) (parties : List (Party T)) (trace : List (QueueEntry T)) (r : HasRun form made c parties trace)
      → AreUnderWay parties (at r.chain c r.now r.sittings)
  are_under_way form made c parties trace r =
      record {
        callers = map caller_of r.sittings;
        parties_are = parties_of r.sittings ∙ sym r.parties_are;
        under_way = asked_of r.sittings;
        fits = subst (λ (ss : List (ActiveQueueCall T)). FitsAt r.chain c r.now ss) (sym (seats_of r.sittings)) r.fits;
      }

pub merges_are_runs : {T : Type 0} → MergesAreRuns T
merges_are_runs {T} form events replies last has acts order =
    let new : IsNew {T = T} form (new_cells form) = new_is form has in
    let m = merge form events (steps_of events) last [] (new_cells form) [] replies new.0 (running_start form (steps_of events) (new_cells form) new) tt acts order in
    record {
      trace = m.more;
      ran = record {
        made = m.running.made;
        first = m.running.first;
        entries = m.running.entries;
        ended = refl;
        run = λ counted. (let x = m.running.run counted in record { last = at x.chain last x.now x.sittings; opened = x.opened; run = x.run; refused = tt });
      };
      answers = m.answers;
      cells = λ counted. refl;
      parties = m.parties;
      stands = m.stands;
      under_way = λ counted. are_under_way form m.running.made last m.parties m.more (m.running.run counted);
    }

-- ---- a walk over cells of any kind, as events

module _ {T S : Type 0} (did : Deed T → S → S → Type 0) where
  pub along_more : (o : Option (Deed T)) (os : List (Option (Deed T))) (s m t : S) → Along did (o ∷ []) s m → Along did os m t → Along did (o ∷ os) s t
  along_more None os s m t e h = subst (λ (x : S). Along did os x t) e h
  along_more (Some d) os s m t (x, h, e) g = (x, h, subst (λ (y : S). Along did os y t) e g)

  abbrev call_at : CallState T → QueueMark → QueueCall T
  call_at at m = record { state = at; mark = m }

  -- a call at this state, whatever its last mark, does these steps and replies
  abbrev Goes : QueueForm → CallState T → List (Option (Deed T)) → QueueReply T → Type 0
  Goes form at os r = (m : QueueMark) (xs : List (Event T)) (more : List (QueueReply T)) → Acts form None xs more → Acts form (Some (call_at at m)) (map does os ++ xs) (r ∷ more)

  goes : (form : QueueForm) (n : ℕ) (s : S) (at : CallState T) (x : S) (b : CallState T) (t : S) (z : CallState T) (m : QueueMark) (r : QueueReply T)
      → Leads (StateMakes did form) n s at x b → StateMakes did form x b t (record { action = z; mark = m; reply = Some r })
      → (os : List (Option (Deed T))) × Along did os s t × Goes form at os r
  goes form zero s at x b t z m r (e, f) last =
      let n = note_state did form s at t (record { action = z; mark = m; reply = Some r })
      (subst (λ (y : S). StateMakes did form y at t (record { action = z; mark = m; reply = Some r })) e (subst (λ (y : CallState T). StateMakes did form x y t (record { action = z; mark = m; reply = Some r })) f last)) in
      (n.0 ∷ [], n.2, λ k xs more h. (call_at z m, Some r, n.1, (more, refl, h)))
  goes form (suc j) s at x b t z m r (y, c, (k, step), path) last =
      let n = note_state did form s at y (record { action = c; mark = k; reply = None }) step in
      let rest = goes form j y c x b t z m r path last in
      (n.0 ∷ rest.0, along_more n.0 rest.0 s y t n.2 rest.1, λ k' xs more h. (call_at c k, None, n.1, rest.2 k xs more h))

-- ---- a step over cells that show what they hold

module _ {T S : Type 0} (did : Deed T → S → S → Type 0) (held : S → Contents T) (exact : (d : Deed T) (s t : S) → did d s t → Does d (held s) (held t)) where
  changed : (o : Option (Deed T)) (s t : S) → Along did (o ∷ []) s t → Changes (does o) (held s) (held t)
  changed None s t same = ap held same
  changed (Some d) s t (m, h, same) = subst (λ (x : S). Does d (held s) (held x)) (sym same) (exact d s m h)

  -- a step of a call is one of the contract, where each operation does to what the cells hold just what it says
  pub made_is_step : (form : QueueForm) (s : S) (call : QueueCall T) (t : S) (next : QueueCall T) (answer : Option (QueueReply T)) → (held s).form ≡ form
      → CallMakes did form s call t next answer → IsQueueStep (held s) call (held t) next answer
  made_is_step form s call t next answer e h =
      let n = note_state did form s call.state t (record { action = next.state; mark = next.mark; reply = answer }) h in
      call_noted (held s) (held t) form call n.0 next answer e n.1 (changed n.0 s t n.2)

pub walks_act : {T S : Type 0} (did : Deed T → S → S → Type 0) → WalksAct did
walks_act did form a s t r (n, (x, y, z, m, path, last)) =
    let g = goes did form n s (Asked a) x y t z m r path last in
    (g.0, g.1, λ xs more h. g.2 Nothing xs more h)
