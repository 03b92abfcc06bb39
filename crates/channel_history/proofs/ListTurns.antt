-- A call's section on a list, as a turn of its party: the list's seat is taken into the call's before it, and parts from it after it. Each
-- lemma of a section takes what the list's own call ensures of the list.
use Rattle.std.proofs.Common.{◌≡◌, List, [], ◌∷◌, ◌++◌, refl, sym, ap, subst, append-nil}
use Rattle.std.specs.Prelude.{true, Option, None, Result, Ok, Err, IfOk, OnErr}
use Rattle.concurrent_queue.specs.declared.cells.QueueForm.{QueueForm}
use Rattle.event_listener.specs.Lists.{ListView, kind_of, listened, registration, removed, removed_wakes}
use Rattle.event_listener.specs.declared.error.ListenError.{ListenError}
use Rattle.event_listener.specs.declared.key.Key.{Key}
use Rattle.channel_calls.specs.Deeds.{Deed, inserted, registered, taken_off, told}
use Rattle.channel_calls.specs.Parts.{Listeners, Registers, told_as, told_as_wakes}
use Rattle.channel_calls.specs.declared.stage.Telling.{Telling}
use Rattle.channel_calls.specs.declared.stage.WaitList.{WaitList}
use Rattle.channel_steps.specs.every_run.Bridge.{on_wait_lists}
use Rattle.channel_history.specs.Keeps.{ChangesList, Leaves}
use Rattle.channel_history.specs.Machine.{new_list, IsSection, both, left, parts, with_list}
use Rattle.channel_history.specs.Party.{nothing, fresh, with_own, Makes}
use Rattle.channel_history.specs.declared.party.Belongings.{Belongings}
use Rattle.channel_history.specs.declared.party.Standing.{Standing}
use Rattle.channel_history.proofs.Deeds.{deeds_do}

-- what the making of a list ensures
pub is_new : {W : Type 0} (l : ListView Unit W) → l.lists.told ≡ [] → l.lists.waiting ≡ [] → l.visits ≡ 0 → l.serials ≡ 0 → l.room ≡ 0 → l.looks ≡ 0 → l ≡ new_list
is_new l nobody none visits serials room looks =
    λ i. record { lists = record { told = nobody i; waiting = none i }; visits = visits i; serials = serials i; room = room i; looks = looks i }

module _ {T W : Type 0} where
  -- ---- what a section does to its list

  module _ (line : WaitList) (l m : Listeners W) where
    abbrev Changes : Deed T W → Type 0
    Changes o = ChangesList {T = T} line o l m

    leaving : (o : Deed T W) (k : Listeners W) → m ≡ k → ChangesList {T = T} line o l k → Changes o
    leaving o k is h = subst (λ (x : Listeners W). ChangesList {T = T} line o l x) (sym is) h

    pub insert_changes : (r : Result Key ListenError) → IfOk r (λ key. kind_of l key ≡ None) → IfOk r (λ key. m ≡ listened key l) → OnErr r (m ≡ l) → Changes (inserted line r)
    insert_changes (Ok key) unknown is same = leaving (inserted line (Ok key)) (listened key l) is ((deeds_do T W).inserts line l key unknown)
    insert_changes (Err e) unknown is same = leaving (inserted line (Err e)) l same ((deeds_do T W).refuses line l e)

    pub register_changes : (key : Key) (task : W) (r : Option W) → Registers l key task r → m ≡ registration key task l → Changes (registered line key task r)
    register_changes key task r answer is = leaving (registered line key task r) (registration key task l) is ((deeds_do T W).registers line l key task r answer)

    pub remove_changes : (key : Key) → m ≡ removed key true l → Changes (taken_off line key (removed_wakes key true l))
    remove_changes key is = leaving (taken_off line key (removed_wakes key true l)) (removed key true l) is ((deeds_do T W).removes line l key)

    pub notify_changes : (telling : Telling) → m ≡ told_as telling l → Changes (told line telling (told_as_wakes telling l))
    notify_changes telling is = leaving (told line telling (told_as_wakes telling l)) (told_as telling l) is ((deeds_do T W).tells line l telling)

  -- ---- a seat that has a list beside what it had

  abbrev has_list : WaitList → ListView Unit W → Standing T W → Standing T W
  has_list line l s = with_own (record s.own { lists = (line, l) ∷ [] }) s

  taken_in : (line : WaitList) (l : ListView Unit W) (s : Standing T W) → s.own.lists ≡ [] → both s (with_list line l) ≡ has_list line l s
  taken_in line l s none =
      let lists : s.own.lists ++ (line, l) ∷ [] ≡ (line, l) ∷ [] = ap (λ (ls : List (WaitList × ListView Unit W)). ls ++ (line, l) ∷ []) none in
      λ i. with_own (record { lists = lists i; handles = append-nil s.own.handles i; listeners = append-nil s.own.listeners i }) s

  module _ (form : QueueForm) where
    -- what was taken in parts again, and all that lies with a seat may go from it
    pub parts_again : (s : Standing T W) (b : Belongings W) → parts form (both s (with_own b fresh)) s (with_own b fresh)
    parts_again s b = (s.own, b, refl, refl, refl)

    pub parts_with_all : (s : Standing T W) → parts form s (left s) (with_own s.own fresh)
    parts_with_all s = (nothing, s.own, refl, refl, refl)

    -- ---- sections

    module _ (s t : Standing T W) (line : WaitList) (l k : ListView Unit W) (none : s.own.lists ≡ []) (none_left : t.own.lists ≡ []) where
      -- the call makes this deed, and its seat keeps what the deed leaves
      abbrev MakesAndLeaves : Deed T W → Type 0
      MakesAndLeaves o = Makes form s (on_wait_lists o) t × Leaves o s t

      -- with the list before and after it
      pub section : (o : Deed T W) → MakesAndLeaves o → ChangesList line o l.lists k.lists → IsSection form line l k (both s (with_list line l)) (both t (with_list line k))
      section o ((os, still, leads), leaves) changes =
          let made : Makes form (has_list line l s) (on_wait_lists o) (has_list line k t) = (os, still, record { more = leads.more; acts = leads.acts; given = leads.given; asked = leads.asked }) in
          subst (λ (x : Standing T W). IsSection form line l k x (both t (with_list line k))) (sym (taken_in line l s none))
          (subst (λ (x : Standing T W). IsSection form line l k (has_list line l s) x) (sym (taken_in line k t none_left)) (o, made, refl, refl, leaves, changes))
