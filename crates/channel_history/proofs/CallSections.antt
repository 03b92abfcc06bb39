-- A section of a call on a list, from what its cells asked for and what the list's own call ensures, to the deed that its cells say they did.
use Rattle.std.proofs.Common.{◌≡◌, List, [], ◌∷◌, ◌++◌, refl, sym, ap, ◌∙◌, subst, append-nil}
use Rattle.concurrent_queue.specs.declared.cells.QueueForm.{QueueForm}
use Rattle.event_listener.specs.Lists.{ListView}
use Rattle.channel_calls.specs.Deeds.{Deed, told}
use Rattle.channel_calls.specs.Parts.{Listeners}
use Rattle.channel_calls.specs.declared.stage.Telling.{Telling}
use Rattle.channel_calls.specs.declared.stage.WaitList.{WaitList}
use Rattle.channel_steps.specs.every_run.Bridge.{on_wait_lists}
use Rattle.channel_history.specs.CallSections.{HoldsList, LiesAlone, IsInside, without_lists, lists_alone, SectionTo, IsSectionOf}
use Rattle.channel_history.specs.Cells.{May, Did}
use Rattle.channel_history.specs.Keeps.{ChangesList}
use Rattle.channel_history.specs.Machine.{both, with_list, parts, FindsNobody, new_list}
use Rattle.channel_history.specs.Party.{Makes, with_own}
use Rattle.channel_history.specs.Sections.{IsOnList, SectionsAct}
use Rattle.channel_history.specs.declared.party.Belongings.{Belongings}
use Rattle.channel_history.specs.declared.party.Standing.{Standing}
use Rattle.channel_history.proofs.ListTurns.{section}

module _ {T W : Type 0} where
  -- a seat that was taken in leaves what was there
  pub outside : (line : WaitList) (l : ListView Unit W) (s : Standing T W) → s.own.lists ≡ [] → without_lists (both s (with_list line l)) ≡ s
  outside line l s none =
      λ i. with_own (record { lists = sym none i; handles = append-nil s.own.handles i; listeners = append-nil s.own.listeners i }) s

  -- what is at hand meanwhile is the list
  pub inside_lists : (line : WaitList) (l : ListView Unit W) (s t : Standing T W) → s.own.lists ≡ [] → t ≡ both s (with_list line l) → t.own.lists ≡ (line, l) ∷ []
  inside_lists line l s t none e =
      ap (λ (x : Standing T W). x.own.lists) e ∙ ap (λ (ls : List (WaitList × ListView Unit W)). ls ++ (line, l) ∷ []) none

  -- it was taken in by the seat that lies beside it
  pub taken_in_so : (line : WaitList) (lists : Listeners W) (s x : Standing T W) → LiesAlone line lists x → IsInside line lists s (both s x)
  taken_in_so line lists s x (l, own, holds) = (l, ap (λ (b : Belongings W). both s (with_own b x)) own, holds)

  -- and parts from it
  pub lists_part : (form : QueueForm) (v : Standing T W) → parts form v (without_lists v) (lists_alone v)
  lists_part form v = (
    record v.own { lists = [] },
    record { lists = v.own.lists; handles = []; listeners = [] },
    refl,
    refl,
    λ i. record { lists = v.own.lists; handles = sym (append-nil v.own.handles) i; listeners = sym (append-nil v.own.listeners) i },
  )

  pub lies_alone : (line : WaitList) (lists : Listeners W) (v : Standing T W) → HoldsList line lists v → LiesAlone line lists (lists_alone v)
  lies_alone line lists v (l, is, holds) =
      (l, ap (λ (ls : List (WaitList × ListView Unit W)). record { lists = ls; handles = []; listeners = [] }) is, holds)

  -- ---- the event

  no_list : (form : QueueForm) (d : Deed T W) (s t : Standing T W) → Did form d s t → t.own.lists ≡ []
  no_list form d s t did = ap (λ (x : Standing T W). x.own.lists) did.left

  module _ (act : SectionsAct T W) (form : QueueForm) (line : WaitList) where
    abbrev left_with : Listeners W → ListView Unit W
    left_with lists = record new_list { lists = lists }

    -- a deed on a list that may be done, and changes the list so, is a section of the party, which its cells say they did
    pub section_turn : (d : Deed T W) (s : Standing T W) (l : ListView Unit W) (lists : Listeners W) → IsOnList line d → May form d s → ChangesList line d l.lists lists
        → (v : Standing T W) × IsSectionOf form line l.lists lists (both s (with_list line l)) v × SectionTo form line d lists (both s (with_list line l)) v
    section_turn d s l lists on may changes =
        let none : s.own.lists ≡ [] = may.2.2.0 in
        let gone = act.section_goes form line d s on may in
        let t = gone.0 in
        let k : ListView Unit W = left_with lists in
        let acts = act.section_acts form line l k d s t gone.1 in
        let made : Makes form s (on_wait_lists d) t = (acts.0.0, acts.0.1, record { more = acts.0.2.more; acts = acts.0.2.acts; given = acts.0.2.given; asked = acts.0.2.asked }) in
        let none_left = no_list form d s t gone.1.1 in (
          both t (with_list line k),
          (l, k, section form s t line l k none none_left d (made, acts.1) changes, refl, refl),
          (t, k, subst (λ (x : Standing T W). Did form d x t) (sym (outside line l s none)) gone.1.1, refl, refl),
        )

    -- and once the list's seat has left, the call has done it
    pub section_done : (d : Deed T W) (s u v : Standing T W) (l : ListView Unit W) (lists : Listeners W) → s.own.lists ≡ [] → u ≡ both s (with_list line l) → SectionTo form line d lists u v
        → Did form d s (without_lists v) × HoldsList line lists v
    section_done d s u v l lists none is (t, k, did, so, holds) =
        let from_s : Did form d s t = subst (λ (x : Standing T W). Did form d x t) (ap (λ (x : Standing T W). without_lists x) is ∙ outside line l s none) did in
        let none_left = no_list form d s t from_s in (
          subst (λ (x : Standing T W). Did form d s x) (sym (ap (λ (x : Standing T W). without_lists x) so ∙ outside line k t none_left)) from_s,
          (k, inside_lists line k t v none_left so, holds),
        )

    -- a notification to nobody, which is made without the list
    pub finds_nobody : (telling : Telling) (s : Standing T W) → May form (told line telling []) s → (t : Standing T W) × FindsNobody form s t line × Did form (told line telling []) s t
    finds_nobody telling s may =
        let none : s.own.lists ≡ [] = may.2.2.0 in
        let d : Deed T W = told line telling [] in
        let gone = act.section_goes form line d s refl may in
        let t = gone.0 in
        let acts = act.section_acts form line new_list new_list d s t gone.1 in
        let made : Makes form s (on_wait_lists d) t = (acts.0.0, acts.0.1, record { more = acts.0.2.more; acts = acts.0.2.acts; given = acts.0.2.given; asked = acts.0.2.asked }) in
        let lists : t.own.lists ≡ s.own.lists = no_list form d s t gone.1.1 ∙ sym none in
        (t, (telling, made, λ i. record { lists = lists i; handles = acts.1.0 i; listeners = acts.1.1 i }), gone.1.1)
