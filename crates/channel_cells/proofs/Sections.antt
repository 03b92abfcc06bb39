-- Which lock is that of which list, and what a section does by what its cells asked for.
use Rattle.std.proofs.Common.{◌≡◌, ◌≢◌, ◌∙◌, ℕ, Bool, true, false, List, [], ◌∷◌, if◌then◌else◌, ap, refl, sym, subst, arith}
use Rattle.std.proofs.lemmas.Bool.{true≢false}
use mathlib.Core.Bool.{beq}
use mir.Val.{bool_byte}
use Rattle.std.specs.Prelude.{Option, None, Some, is_some}
use Rattle.concurrent_queue.specs.declared.cells.QueueForm.{QueueForm}
use Rattle.event_listener.specs.Lists.{ListView, Notice, told_as, without, with_task, registration}
use Rattle.event_listener.specs.declared.key.Key.{Key}
use Rattle.channel_calls.specs.Deeds.{Deed, registered}
use Rattle.channel_calls.specs.Parts.{Listeners, Registers, waits}
use Rattle.channel_calls.specs.declared.stage.WaitList.{WaitList}
use Rattle.channel_calls.specs.declared.stage.WaitList.TheVariants.{Sends, Receives, Streams, Closings}
use Rattle.channel_history.proofs.CallSections.{inside_lists, section_turn, section_done}
use Rattle.channel_history.proofs.CellActs.{sections_act}
use Rattle.channel_history.specs.CallSections.{HoldsList, IsInside, IsSectionOf, MayTurn, SectionTo, AnsweredTo, RegisteredTo, without_lists}
use Rattle.channel_history.specs.Cells.{May, Did}
use Rattle.channel_history.specs.Keeps.{ChangesList}
use Rattle.channel_history.specs.Machine.{SetsFlag, both, with_list, turns, makes_section}
use Rattle.channel_history.specs.Sections.{IsOnList}
use Rattle.channel_history.specs.declared.party.Standing.{Standing}
use Rattle.channel_cells.specs.Lists.{index_of, line_at}

pub line_there : (line : WaitList) → line_at (index_of line) ≡ line
line_there Sends = refl
line_there Receives = refl
line_there Streams = refl
line_there Closings = refl

-- ---- a section, from what its cells asked for to the deed that they say they did

module _ {T W : Type 0} (form : QueueForm) (line : WaitList) (d : Deed T W) (s u : Standing T W) (before after : Listeners W) (may : May form d s) (inside : IsInside line before s u) where
  -- the event is a section of the party, since the list was changed so
  pub goes_on : IsOnList line d → ChangesList line d before after → (v : Standing T W) × IsSectionOf form line before after u v × SectionTo form line d after u v
  goes_on on changes =
      let l = inside.0 in
      let goes = section_turn (sections_act T W) form line d s l after on may (subst (λ (x : Listeners W). ChangesList line d x after) (sym inside.2) changes) in
      subst (λ (x : Standing T W). (v : Standing T W) × IsSectionOf form line before after x v × SectionTo form line d after x v) (sym inside.1)
      (subst (λ (b : Listeners W). (v : Standing T W) × IsSectionOf form line b after (both s (with_list line l)) v × SectionTo form line d after (both s (with_list line l)) v) inside.2 goes)

  -- and once the list's seat has left, the deed was done
  pub was_done : (v : Standing T W) → SectionTo form line d after u v → Did form d s (without_lists v) × HoldsList line after v
  was_done v to = section_done (sections_act T W) form line d s u v inside.0 after may.2.2.0 inside.1 to

-- ---- whether somebody waits

module _ {T W : Type 0} (form : QueueForm) (line : WaitList) (u v : Standing T W) where
  -- by whether nobody waited before and nobody does after
  pub may_turn : (before after : Listeners W) (b a : Bool) → (b ≡ true → before.waiting ≡ []) → (b ≡ false → before.waiting ≢ []) → (a ≡ true → after.waiting ≡ []) → IsSectionOf form line before after u v
      → MayTurn form line b a u v
  may_turn before after b a none some left (l, k, made, is, so) = (
    l,
    k,
    made,
    λ e. ap (λ (x : Listeners W). x.waiting) is ∙ none e,
    λ e free. some e (ap (λ (x : Listeners W). x.waiting) (sym is) ∙ free),
    λ e. ap (λ (x : Listeners W). x.waiting) so ∙ left e,
  )

  -- where nobody comes to wait
  pub turns_so : (before after : Listeners W) → (before.waiting ≡ [] → after.waiting ≡ []) → IsSectionOf form line before after u v → turns form u v
  turns_so before after still (l, k, made, is, so) =
      makes_section line l k made (λ free. ap (λ (x : Listeners W). x.waiting) so ∙ still (ap (λ (x : Listeners W). x.waiting) (sym is) ∙ free))

module _ {T W : Type 0} (form : QueueForm) (line : WaitList) (u v : Standing T W) where
  -- what `MayTurn` allows: a turn where both are the same, and elsewhere to set the word
  pub turns_of : (b a : Bool) → beq b a ≡ true → MayTurn form line b a u v → turns form u v
  turns_of true true same (l, k, made, none, some, left) = makes_section line l k made (λ free. left refl)
  turns_of true false same (l, k, made, none, some, left) = absurd cc
  turns_of false a same (l, k, made, none, some, left) = makes_section line l k made (λ free. absurd (some refl free))

  pub flag_of : (b a : Bool) → beq b a ≡ false → (n : ℕ) → n ≡ bool_byte b → MayTurn form line b a u v → SetsFlag form u v line n
  flag_of true a differ n is (l, k, made, none, some, left) = (l, k, made, λ zero. absurd (omega (arith, is, zero)))
  flag_of false true differ n is (l, k, made, none, some, left) = (l, k, made, λ zero. left refl)
  flag_of false false differ n is (l, k, made, none, some, left) = absurd cc

either_way : {A : Type 0} (P : A → Type 0) (b : Bool) {x y : A} → P x → P y → P (if b then x else y)
either_way P true f g = f
either_way P false f g = g

module _ {W : Type 0} where
  -- a registration on a list on which nobody waits
  registers_nobody : (gone : List (Key × Notice Unit)) (key : Key) (task : W) → (registration key task (record { told = gone; waiting = [] })).waiting ≡ []
  registers_nobody gone key task =
      let l : Listeners W = record { told = gone; waiting = [] } in
      either_way (λ (x : Listeners W). x.waiting ≡ []) (is_some (told_as l key)) {x = without key l} {y = l} refl refl

  pub registration_leaves_none : (key : Key) (task : W) (l : Listeners W) → l.waiting ≡ [] → (registration key task l).waiting ≡ []
  registration_leaves_none key task l none =
      let is : l ≡ record { told = l.told; waiting = [] } = (λ i. record { told = l.told; waiting = none i }) in
      subst (λ (x : Listeners W). (registration key task x).waiting ≡ []) (sym is) (registers_nobody l.told key task)

-- ---- a deed that follows from what the list held

module _ {W : Type 0} where
  first_of : ListView Unit W → List (WaitList × ListView Unit W) → ListView Unit W
  first_of l [] = l
  first_of l (x ∷ xs) = x.1

  same_list : (ls : List (WaitList × ListView Unit W)) (line : WaitList) (l k : ListView Unit W) → ls ≡ (line, l) ∷ [] → ls ≡ (line, k) ∷ [] → l ≡ k
  unfolding first_of
  same_list ls line l k e f = ap (first_of l) (sym e ∙ f)

  -- whether a listener keeps its task is one
  pub registers_so : (l : Listeners W) (key : Key) (task : W) → (o : Option W) × Registers l key task o
  registers_so l key task = kept (waits key l) refl
    where
      kept : (b : Bool) → waits key l ≡ b → (o : Option W) × Registers l key task o
      kept true e = (None, e)
      kept false e = (Some task, (refl, e))

  pub registers_once : (l : Listeners W) (key : Key) (task : W) (a b : Option W) → Registers l key task a → Registers l key task b → a ≡ b
  registers_once l key task None None h k = refl
  registers_once l key task (Some x) (Some y) h k = ap (λ (z : W). Some z) (h.0 ∙ sym k.0)
  registers_once l key task None (Some y) h k = absurd (true≢false (sym h ∙ k.1))
  registers_once l key task (Some x) None h k = absurd (true≢false (sym k ∙ h.1))

module _ {T W : Type 0} (form : QueueForm) (line : WaitList) (s u : Standing T W) (before : Listeners W) (none : s.own.lists ≡ []) (inside : IsInside line before s u) where
  there : u.own.lists ≡ (line, inside.0) ∷ []
  there = inside_lists line inside.0 s u none inside.1

  held : (l : ListView Unit W) → u.own.lists ≡ (line, l) ∷ [] → l.lists ≡ before
  held l is = ap (λ (k : ListView Unit W). k.lists) (same_list u.own.lists line l inside.0 is there) ∙ inside.2

  pub answered_by : (deed : Listeners W → Deed T W) (after : Listeners W) (v : Standing T W) → SectionTo form line (deed before) after u v → AnsweredTo form line deed after u v
  answered_by deed after v to = (inside.0, there, subst (λ (x : Listeners W). SectionTo form line (deed x) after u v) (sym inside.2) to)

  pub answers_to : (deed : Listeners W → Deed T W) (after : Listeners W) (v : Standing T W) → AnsweredTo form line deed after u v → SectionTo form line (deed before) after u v
  answers_to deed after v (l, is, to) = subst (λ (x : Listeners W). SectionTo form line (deed x) after u v) (held l is) to

  pub registered_by : (key : Key) (task : W) (o : Option W) (v : Standing T W) → Registers before key task o → SectionTo form line (registered line key task o) (registration key task before) u v → RegisteredTo form line key task u v
  registered_by key task o v answer to =
      (inside.0, there, o, subst (λ (x : Listeners W). Registers x key task o) (sym inside.2) answer, subst (λ (x : Listeners W). SectionTo form line (registered line key task o) (registration key task x) u v) (sym inside.2) to)

  pub registers_to : (key : Key) (task : W) (v : Standing T W) → RegisteredTo form line key task u v
      → (o : Option W) × Registers before key task o × SectionTo form line (registered line key task o) (registration key task before) u v
  registers_to key task v (l, is, o, answer, to) =
      subst (λ (x : Listeners W). (a : Option W) × Registers x key task a × SectionTo form line (registered line key task a) (registration key task x) u v) (held l is) (o, answer, to)
