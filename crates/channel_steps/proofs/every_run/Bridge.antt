-- Calls that walk their machines over a channel's cells in one order make a run.
use Rattle.std.proofs.Common.{◌≡◌, ℕ, ◌==◌, Bool, true, false, List, [], ◌∷◌, ◌++◌, map, Option, None, Some, Ok, Err, MatchOption, slice_set, if◌then◌else◌, refl, sym, ap, ◌∙◌, subst}
use Rattle.std.specs.List.{remove}
use Rattle.concurrent_queue.specs.Bridge as queue
use Rattle.channel_steps.proofs.every_run.Words.{Contents, asked, QueueReply, QueueForm, QueueCall, first, kept_by, Deed, stepped, Done, Does, Parts, Takes, Leaves, WorkMakes, ChannelMakes, ChannelAsk, Mark, Reply, ListenerRef, Stage, Trying, Working, Finished, ListStep, TellReceive, TellStreams, TellSend, TellSends, TakeRoom, TellAll, Insert, Register, Leave, Lower, Count, Load, Raise, HasBegun, ActiveCall, Configuration, ActiveCallWitness, Represents, StepsAt, HasParty, active_call_of, Entry, Party, IsChannelStep, IsNewCall, after_step, left_by, Act, on_queue, on_wait_lists, on_nothing, Event, begins, Happening, Completed, Notes, Acts, own, step_of, steps_of, given_by, given_to, Changes, InOneOrder, IsIdle}
use Rattle.concurrent_queue.specs.Deeds as cell
use Rattle.concurrent_queue.specs.declared.call.QueueAsk.TheVariants as queue_ask
use Rattle.concurrent_queue.proofs.Bridge.{call_noted, change_keeps_form}
use Rattle.concurrent_queue.proofs.Callers.{is_same, is_other, itself, either, place_of, AllApart, has_at, begun_mine, begun_other, begun_apart, set_mine, set_other, set_apart, gone_other, gone_mine, gone_apart}
use Rattle.channel_calls.proofs.Interface.{carried, exact_step}
use Rattle.channel_calls.proofs.Walking.{taken_of}
use Rattle.channel_calls.specs.declared.mark.Mark.TheVariants.{Nothing}
use Rattle.channel_steps.specs.declared.run.Step.TheVariants as step
use Rattle.channel_steps.proofs.RunFacts as runs
use Rattle.channel_steps.proofs.ConfigurationFacts.{party_steps}
use Rattle.channel_steps.specs.every_run.Bridge.{does, ActsTo, id_of, stage_of, stage_at}
use Rattle.concurrent_queue.specs.Parties.{call_under}
use Rattle.channel_steps.specs.every_run.Ends.{Each}
use Rattle.channel_steps.proofs.every_run.BridgeLeads.{StepLeadsOn, GoThrough, leads_begun, leads_stepped, through_none, through_more}

-- ---- a step that was noted, over cells that it changes

module _ {T W S : Type 0} (wakes : S → W → S → Type 0) (form : QueueForm) (c e : Parts T W × S) (same_form : c.0.cells.form ≡ form) where
  abbrev did : Deed T W → Parts T W × S → Parts T W × S → Type 0
  did = Done Does wakes

  on : (o : Act T W) (d : Deed T W) → o ≡ on_wait_lists d → Changes wakes (does o) c e → did d c e
  on o d is h = subst (λ (x : Act T W). Changes wakes (does x) c e) is h

  none : (o : Act T W) → o ≡ on_nothing → Changes wakes (does o) c e → e ≡ c
  none o is h = subst (λ (x : Act T W). Changes wakes (does x) c e) is h

  -- the queue's call
  cells_change : (o : Option (cell.Deed T)) → Changes wakes (does (on_queue o)) c e → queue.Changes (queue.does o) c.0.cells e.0.cells
  cells_change None h = ap (λ (x : Parts T W × S). x.0.cells) h
  cells_change (Some d) h = h.0

  wait_lists_stays : (o : Option (cell.Deed T)) → Changes wakes (does (on_queue o)) c e → (e.0.wait_lists ≡ c.0.wait_lists) × (e.1 ≡ c.1)
  wait_lists_stays None h = (ap (λ (x : Parts T W × S). x.0.wait_lists) h, ap (λ (x : Parts T W × S). x.1) h)
  wait_lists_stays (Some d) h = (h.1, h.2)

  tried : (call next : QueueCall T) (answer : Option (QueueReply T)) (o : Act T W) → Notes form (stepped call next answer) on_nothing o → Changes wakes (does o) c e → did (stepped call next answer) c e
  tried call next answer o (x, makes, is) h =
      let g : Changes wakes (does (on_queue x)) c e = subst (λ (y : Act T W). Changes wakes (does y) c e) is h in
      let r = wait_lists_stays x g in
      ((call_noted c.0.cells e.0.cells form call x next answer same_form makes (cells_change x g), r.0), r.1)

  noted : (d : Deed T W) (o : Act T W) → Notes form d on_nothing o → Changes wakes (does o) c e → did d c e
  noted (stepped call next answer) o is h = tried call next answer o is h
  noted w o is h = on o _ is h

  made : (at : Stage (QueueCall T) T W) (o : Act T W) (m : Mark) (next : Stage (QueueCall T) T W) (r : Option (Reply T)) → ChannelMakes (Notes form) at on_nothing o m next r → Changes wakes (does o) c e → ChannelMakes did at c e m next r
  made at o m next r n h = carried (Notes form) did on_nothing o c e (λ d is. noted d o is h) (λ is. none o is h) m next r at n

  -- ---- the queue keeps its form

  abbrev form_in : Parts T W → QueueForm
  form_in p = p.cells.form

  on_one_list : (p : Parts T W) → e.0 ≡ p → p.cells ≡ c.0.cells → e.0.cells.form ≡ c.0.cells.form
  on_one_list p is same = ap form_in is ∙ ap (λ (x : Contents T). x.form) same

  left_form : (held : Option ListenerRef) → Leaves did held c e → e.0.cells.form ≡ c.0.cells.form
  left_form None h = ap (λ (x : Parts T W × S). form_in x.0) h
  left_form (Some held) (names, ((how, lists), woken)) = on_one_list _ lists refl

  work_form : (w : ListStep T W) (m : Mark) (next : Stage (QueueCall T) T W) (r : Option (Reply T)) → WorkMakes did w c e m next r → e.0.cells.form ≡ c.0.cells.form
  work_form (TellReceive x) m next r (names, ((how, lists), woken), t) = on_one_list _ lists refl
  work_form (TellStreams x) m next r (names, ((how, lists), woken), t) = on_one_list _ lists refl
  work_form (TellSend x) m next r (names, ((how, lists), woken), t) = on_one_list _ lists refl
  work_form (TellSends n x) m next r (names, ((how, lists), woken), t) = on_one_list _ lists refl
  work_form (TakeRoom n) m next r (turn, is, room, t) = ap (λ (x : Parts T W × S). form_in x.0) is
  work_form (TellAll line x) m next r (names, ((how, lists), woken), t) = on_one_list _ lists refl
  work_form (Insert w task) m next r (Ok key, ((how, lists), woken), t) = on_one_list _ lists refl
  work_form (Insert w task) m next r (Err error, (same, woken), t) = ap form_in same
  work_form (Register w key task) m next r (x, ((how, lists), woken), t) = on_one_list _ lists refl
  work_form (Leave x) m next r (l, t) = left_form x.held l
  work_form (Lower side key) m next r (n, ((how, lists), woken), t) = on_one_list _ lists refl
  work_form (Count side) m next r (n, ((how, same), woken), t) = ap form_in same
  work_form (Load side making) m next r (n, ((how, same), woken), t) = ap form_in same
  work_form (Raise side n making) m next r (true, ((how, lists), woken), t) = on_one_list _ lists refl
  work_form (Raise side n making) m next r (false, ((how, same), woken), t) = ap form_in same

  form_after : (at : Stage (QueueCall T) T W) (o : Act T W) (m : Mark) (next : Stage (QueueCall T) T W) (r : Option (Reply T)) → ChannelMakes (Notes form) at on_nothing o m next r → Changes wakes (does o) c e → e.0.cells.form ≡ form
  form_after (Trying call purpose) o m next r (after, answer, (x, makes, is), k, t) h =
      let g : Changes wakes (does (on_queue x)) c e = subst (λ (y : Act T W). Changes wakes (does y) c e) is h in
      change_keeps_form c.0.cells e.0.cells (queue.does x) (cells_change x g) ∙ same_form
  form_after (Working w) o m next r n h = work_form w m next r (made (Working w) o m next r n h) ∙ same_form
  form_after (Finished kept) o m next r (is, k, e', t) h = ap (λ (x : Parts T W × S). form_in x.0) (none o is h) ∙ same_form

  -- a party's step is one of the contract
  step_noted : (at : Stage (QueueCall T) T W) (o : Act T W) (m : Mark) (next : Stage (QueueCall T) T W) (r : Option (Reply T)) → ChannelMakes (Notes form) at on_nothing o m next r → Changes wakes (does o) c e
      → IsChannelStep wakes c.0 at c.1 e.0 next m r e.1
  step_noted at o m next r n h = exact_step Does (λ p. p) (λ d p q h. h) wakes c.0 e.0 c.1 e.1 m next r at (made at o m next r n h)

-- ---- the merge

module _ {T : Type 0} where
  abbrev unmarked : Entry T
  unmarked = record { mark = Nothing; reply = None; kept = None }

module _ {T W : Type 0} where
  abbrev party : ℕ → Stage (QueueCall T) T W → Mark → Party T W
  party p at m = record { id = p; call = record { stage = at; mark = m } }

  abbrev pub happens : ℕ → Event T W → Happening T W
  happens p x = record { party = p; event = x }

  pub own_mine : (p : ℕ) (x : Event T W) (xs : List (Happening T W)) → own p (happens p x ∷ xs) ≡ x ∷ own p xs
  own_mine p x xs = rw (itself p) refl

  pub own_other : (p q : ℕ) (x : Event T W) (xs : List (Happening T W)) → (p == q) ≡ false → own q (happens p x ∷ xs) ≡ own q xs
  own_other p q x xs e = rw e refl

module _ {T W : Type 0} (form : QueueForm) where
  -- who acts is left somewhere
  pub acts_to : (at : Option (Stage (QueueCall T) T W)) (xs : List (Event T W)) (given : List (Completed T)) → Acts form at xs given → (to : Option (Stage (QueueCall T) T W)) × ActsTo form at xs given to
  acts_to at [] given h = (at, (h, refl))
  acts_to None (begins ask ∷ xs) given (at, takes, h) = let g = acts_to (Some at) xs given h in (g.0, (at, takes, g.1))
  acts_to None (does o ∷ xs) given h = absurd h
  acts_to (Some at) (begins ask ∷ xs) given h = absurd h
  acts_to (Some at) (does o ∷ xs) given (m, next, None, makes, h) = let g = acts_to (Some next) xs given h in (g.0, (m, next, None, makes, g.1))
  acts_to (Some at) (does o ∷ xs) given (m, next, Some r, makes, (more, is, h)) = let g = acts_to None xs more h in (g.0, (m, next, Some r, makes, (more, is, g.1)))

-- each party is left at `to` of it
module _ {T W S : Type 0} (wakes : S → W → S → Type 0) (form : QueueForm) (to : ℕ → Option (Stage (QueueCall T) T W)) where
  -- what the run is that goes on so
  pub record Merged (events : List (Happening T W)) (c : Parts T W × S) (before : List (Party T W)) (given : ℕ → List (Completed T)) (last : Parts T W × S) : Type 0 where
    pub more : List (Entry T)
    pub parties : List (Party T W)
    pub through : GoThrough wakes (steps_of events) more c before last parties
    pub answers : (p : ℕ) → given_to p events more ≡ given p
    pub stands : (p : ℕ) → stage_at p parties ≡ to p

  abbrev AllAct : List (Party T W) → List (Happening T W) → (ℕ → List (Completed T)) → Type 0
  AllAct parties events given = (p : ℕ) → ActsTo form (call_under id_of stage_of p parties) (own p events) (given p) (to p)

  -- how the run goes on behind one event
  abbrev GoesOn : List (Happening T W) → Parts T W × S → Type 0
  GoesOn xs last =
      (c : Parts T W × S) (parties : List (Party T W)) (given : ℕ → List (Completed T))
      → c.0.cells.form ≡ form → AllApart id_of stage_of parties → AllAct parties xs given → InOneOrder wakes xs c last → Merged xs c parties given last

  -- the others go on as before
  acts_after : (p : ℕ) (x : Event T W) (xs : List (Happening T W)) (before after : List (Party T W)) (given left : ℕ → List (Completed T)) → AllAct before (happens p x ∷ xs) given
      → ActsTo form (call_under id_of stage_of p after) (own p xs) (left p) (to p) → ((q : ℕ) → (p == q) ≡ false → call_under id_of stage_of q after ≡ call_under id_of stage_of q before) → ((q : ℕ) → (p == q) ≡ false → left q ≡ given q) → AllAct after xs left
  acts_after p x xs before after given left acts mine calls same q = test (p == q) refl
    where
      test : (b : Bool) → (p == q) ≡ b → ActsTo form (call_under id_of stage_of q after) (own q xs) (left q) (to q)
      test true e = subst (λ (n : ℕ). ActsTo form (call_under id_of stage_of n after) (own n xs) (left n) (to n)) (is_same p q e) mine
      test false e =
          subst (λ (rs : List (Completed T)). ActsTo form (call_under id_of stage_of q after) (own q xs) rs (to q)) (sym (same q e))
          (subst (λ (o : Option (Stage (QueueCall T) T W)). ActsTo form o (own q xs) (given q) (to q)) (sym (calls q e))
          (subst (λ (ys : List (Event T W)). ActsTo form (call_under id_of stage_of q before) ys (given q) (to q)) (own_other p q x xs e) (acts q)))

  joined : (p : ℕ) (x : Event T W) (xs : List (Happening T W)) (e : Entry T) (given left : ℕ → List (Completed T)) (last : Parts T W × S)
      (c d : Parts T W × S) (parties after : List (Party T W)) → StepLeadsOn wakes c parties (step_of p x) e d after
      → Merged xs d after left last → ((q : ℕ) → (if p == q then given_by e.reply e.kept ++ left q else left q) ≡ given q) → Merged (happens p x ∷ xs) c parties given last
  joined p x xs e given left last c d parties after one m same =
      record {
        more = e ∷ m.more;
        parties = m.parties;
        through = through_more wakes (step_of p x) (steps_of xs) e m.more c parties d after last m.parties one m.through;
        answers = λ q. ap (λ (rs : List (Completed T)). if p == q then given_by e.reply e.kept ++ rs else rs) (m.answers q) ∙ same q;
        stands = m.stands;
      }

  -- whose call isn't among those of the parties has none under way
  none_of : (p : ℕ) (xs : List (ActiveCallWitness T W)) → call_under id_of stage_of p (map (λ (x : ActiveCallWitness T W). x.party) xs) ≡ None → Each (λ u. u.party ≡ p → ⊥) (map active_call_of xs)
  none_of p [] none = tt
  none_of p (x ∷ xs) none = by (none_of p xs) (x.party.id == p) refl none where
    by : (call_under id_of stage_of p (map (λ (y : ActiveCallWitness T W). y.party) xs) ≡ None → Each (λ u. u.party ≡ p → ⊥) (map active_call_of xs)) → (b : Bool) → (x.party.id == p) ≡ b → (if b then Some x.party.call.stage else call_under id_of stage_of p (map (λ (y : ActiveCallWitness T W). y.party) xs)) ≡ None
        → Each (λ u. u.party ≡ p → ⊥) (map active_call_of (x ∷ xs))
    by more true e h = absurd cc
    by more false e h = (is_other x.party.id p e, more h)

  none_under_way : (p : ℕ) (parts : Parts T W) (parties : List (Party T W)) (s : Configuration T W) → call_under id_of stage_of p parties ≡ None → Represents parts parties s → IsIdle p s
  none_under_way p parts parties s none sh =
      subst (λ (us : List (ActiveCall T W)). Each (λ u. u.party ≡ p → ⊥) us) (sym sh.under_way)
      (none_of p sh.witnesses (ap (λ (ps : List (Party T W)). call_under id_of stage_of p ps) (sym sh.parties_are) ∙ none))

  -- a call begins
  idle : (at : Option (Stage (QueueCall T) T W)) (ask : ChannelAsk T W) (ys : List (Event T W)) (rs : List (Completed T)) (t : Option (Stage (QueueCall T) T W)) → ActsTo form at (begins ask ∷ ys) rs t
      → (at ≡ None) × ((s : Stage (QueueCall T) T W) × Takes (first ask) s None × ActsTo form (Some s) ys rs t)
  idle None ask ys rs t h = (refl, h)
  idle (Some s) ask ys rs t h = absurd h

  begun : (p : ℕ) (ask : ChannelAsk T W) (xs : List (Happening T W)) (c d last : Parts T W × S) (parties : List (Party T W)) (given : ℕ → List (Completed T))
      → c.0.cells.form ≡ form → AllApart id_of stage_of parties → AllAct parties (happens p (begins ask) ∷ xs) given
      → d ≡ c → InOneOrder wakes xs d last → GoesOn xs last → Merged (happens p (begins ask) ∷ xs) c parties given last
  begun p ask xs c d last parties given f apart acts same order further =
      let mine = idle (call_under id_of stage_of p parties) ask (own p xs) (given p) (to p) (subst (λ (ys : List (Event T W)). ActsTo form (call_under id_of stage_of p parties) ys (given p) (to p)) (own_mine p (begins ask) xs) (acts p)) in
      let at = mine.1.0 in
      let new : Party T W = party p at Nothing in
      let after : List (Party T W) = parties ++ new ∷ [] in
      let is_new : IsNewCall new.call (first ask) = (None, taken_of (first ask) at None mine.1.1) in
      let begins_so : HasBegun p ask parties unmarked after = runs.begun (asked queue_ask.Pop) p ask new.call parties unmarked after is_new refl refl in
      let here : ActsTo form (call_under id_of stage_of p after) (own p xs) (given p) (to p) = subst (λ (o : Option (Stage (QueueCall T) T W)). ActsTo form o (own p xs) (given p) (to p)) (sym (begun_mine id_of stage_of p parties new refl mine.0)) mine.1.2 in
      let leads : StepLeadsOn wakes c parties (step.Begin p ask) unmarked d after =
      subst (λ (x : Parts T W × S). StepLeadsOn wakes c parties (step.Begin p ask) unmarked x after) (sym same)
      (leads_begun wakes p ask c parties unmarked after (λ s sh. none_under_way p c.0 parties s mine.0 sh) begins_so) in
      joined p (begins ask) xs unmarked given given last c d parties after leads
      (further d after given (ap (λ (y : Parts T W × S). y.0.cells.form) same ∙ f)
      (begun_apart id_of stage_of p parties new refl mine.0 apart)
      (acts_after p (begins ask) xs parties after given given acts here (λ q e. begun_other id_of stage_of p q parties new refl e) (λ q e. refl))
      order)
      (λ q. either (p == q) (given q))

  -- a call makes a step
  busy : (at : Option (Stage (QueueCall T) T W)) (o : Act T W) (ys : List (Event T W)) (rs : List (Completed T)) (t : Option (Stage (QueueCall T) T W)) → ActsTo form at (does o ∷ ys) rs t
      → (s : Stage (QueueCall T) T W) × (at ≡ Some s) × ActsTo form (Some s) (does o ∷ ys) rs t
  busy None o ys rs t h = absurd h
  busy (Some s) o ys rs t h = (s, refl, h)

  module _ (p : ℕ) (o : Act T W) (xs : List (Happening T W)) (c d last : Parts T W × S) (parties : List (Party T W)) (given : ℕ → List (Completed T))
      (f : c.0.cells.form ≡ form) (apart : AllApart id_of stage_of parties) (acts : AllAct parties (happens p (does o) ∷ xs) given)
      (change : Changes wakes (does o) c d) (order : InOneOrder wakes xs d last) (further : GoesOn xs last) (at next : Stage (QueueCall T) T W) (m : Mark) (there : call_under id_of stage_of p parties ≡ Some at) where
    abbrev k : ℕ
    k = place_of id_of stage_of p parties

    abbrev mine : Party T W
    mine = party p next m

    abbrev entry : Option (Reply T) → Entry T
    entry answer = record { mark = m; reply = answer; kept = left_by mine answer }

    abbrev is_there : HasParty p parties k
    is_there =
        let h = has_at id_of stage_of p parties at there in
        let old = h.0 in
        (old.call, h.1 ∙ ap (λ (n : ℕ). let z : Party T W = record { id = n; call = old.call } in Some z) h.2)

    steps_so : (answer : Option (Reply T)) → ChannelMakes (Notes form) at on_nothing o m next answer → StepsAt wakes c.0 parties k c.1 (entry answer) d.0 (after_step parties k mine answer) d.1
    steps_so answer makes =
        let h = has_at id_of stage_of p parties at there in
        let old = h.0 in
        let has = is_there.1 in
        let one : IsChannelStep wakes c.0 at c.1 d.0 next m answer d.1 = step_noted wakes form c d f at o m next answer makes change in
        let mine_steps : IsChannelStep wakes c.0 old.call.stage c.1 d.0 next m answer d.1 = subst (λ (s : Stage (QueueCall T) T W). IsChannelStep wakes c.0 s c.1 d.0 next m answer d.1) (sym h.3) one in
        let who : Party T W = record { id = p; call = old.call } in
        party_steps wakes c.0 d.0 c.1 d.1 who mine answer refl mine_steps parties k has

    leads : (answer : Option (Reply T)) → ChannelMakes (Notes form) at on_nothing o m next answer → StepLeadsOn wakes c parties (step.Step p) (entry answer) d (after_step parties k mine answer)
    leads answer makes = leads_stepped wakes p c parties (entry answer) d (after_step parties k mine answer) apart (is_there, steps_so answer makes)

    made_on : (answer : Option (Reply T)) → ChannelMakes (Notes form) at on_nothing o m next answer
        → MatchOption answer (ActsTo form (Some next) (own p xs) (given p) (to p)) (λ x. (more : List (Completed T)) × (given p ≡ record { reply = x; kept = kept_by next } ∷ more) × ActsTo form None (own p xs) more (to p))
        → Merged (happens p (does o) ∷ xs) c parties given last
    made_on None makes goes =
        let after : List (Party T W) = slice_set parties k mine in
        let here : ActsTo form (call_under id_of stage_of p after) (own p xs) (given p) (to p) = subst (λ (y : Option (Stage (QueueCall T) T W)). ActsTo form y (own p xs) (given p) (to p)) (sym (set_mine id_of stage_of p parties at mine refl there)) goes in
        joined p (does o) xs (entry None) given given last c d parties after (leads None makes)
        (further d after given (form_after wakes form c d f at o m next None makes change) (set_apart id_of stage_of p parties mine refl apart)
        (acts_after p (does o) xs parties after given given acts here (λ q e. set_other id_of stage_of p q parties mine refl e) (λ q e. refl))
        order)
        (λ q. either (p == q) (given q))
    made_on (Some x) makes (more, is, goes) =
        let after : List (Party T W) = remove parties k in
        let left : ℕ → List (Completed T) = λ q. if p == q then more else given q in
        let now : left p ≡ more = rw (itself p) refl in
        let here : ActsTo form (call_under id_of stage_of p after) (own p xs) (left p) (to p) =
        subst (λ (rs : List (Completed T)). ActsTo form (call_under id_of stage_of p after) (own p xs) rs (to p)) (sym now)
        (subst (λ (y : Option (Stage (QueueCall T) T W)). ActsTo form y (own p xs) more (to p)) (sym (gone_mine id_of stage_of p parties apart)) goes) in
        joined p (does o) xs (entry (Some x)) given left last c d parties after (leads (Some x) makes)
        (further d after left (form_after wakes form c d f at o m next (Some x) makes change) (gone_apart id_of stage_of p parties apart)
        (acts_after p (does o) xs parties after given left acts here (λ q e. gone_other id_of stage_of p q parties e) (λ q e. rw e refl))
        order)
        (λ q. told q (p == q) refl)
      where
        told : (q : ℕ) (b : Bool) → (p == q) ≡ b
            → (if p == q then record { reply = x; kept = kept_by next } ∷ (if p == q then more else given q) else (if p == q then more else given q)) ≡ given q
        told q true e = rw e (sym is ∙ ap given (is_same p q e))
        told q false e = rw e refl

  happened : (x : Happening T W) (xs : List (Happening T W)) (c d last : Parts T W × S) (parties : List (Party T W)) (given : ℕ → List (Completed T))
      → (y : Event T W) → c.0.cells.form ≡ form → AllApart id_of stage_of parties → AllAct parties (happens x.party y ∷ xs) given
      → Changes wakes y c d → InOneOrder wakes xs d last → GoesOn xs last → Merged (happens x.party y ∷ xs) c parties given last
  happened x xs c d last parties given (begins ask) f apart acts change order further = begun x.party ask xs c d last parties given f apart acts change order further
  happened x xs c d last parties given (does o) f apart acts change order further =
      let p = x.party in
      let mine = busy (call_under id_of stage_of p parties) o (own p xs) (given p) (to p) (subst (λ (ys : List (Event T W)). ActsTo form (call_under id_of stage_of p parties) ys (given p) (to p)) (own_mine p (does o) xs) (acts p)) in
      let g = mine.2 in
      made_on p o xs c d last parties given f apart acts change order further mine.0 g.1 g.0 mine.1 g.2 g.3 g.4

  pub merge : (events : List (Happening T W)) (last : Parts T W × S) → GoesOn events last
  merge [] last c parties given f apart acts order =
      record { more = []; parties = parties; through = through_none wakes c parties last order; answers = λ p. sym (acts p).0; stands = λ p. sym (acts p).1 }
  merge (x ∷ xs) last c parties given f apart acts (d, change, order) =
      happened x xs c d last parties given x.event f apart acts change order (merge xs last)
