-- Those who are woken after a call, and the names whose operation is what it was.
use Rattle.std.specs.Prelude.{◌≡◌, ◌≤◌, ◌+◌, ◌++◌}
use Rattle.channel_world_runs.proofs.Lemmas.{arith, nat_eq, List, [], Bool, true, false, not, Option, None, Some, refl, sym, ap, ◌∙◌, append-nil, append_assoc, inl, inr, lookup, option_map_or, filter-append, set_value_same, Kind, Placed, times, times_in, Waiting, same_waiter, is_among, without_waiter, untold, told_by, after_news, gone, passed_on, left_after, told_after, standing, Names, Directory, Operation, at, with_operation_changed, OpId, Waiter, News, WaitList, Sends, decided, without_absent, none_left, among_counts, left_nowhere}
use Rattle.channel_world_runs.proofs.refinement.Departing.{times_nowhere}

-- ---- those that are woken

without_append : (w : Waiter) (xs ys : List Waiter) → without_waiter w (xs ++ ys) ≡ without_waiter w xs ++ without_waiter w ys
without_append w xs ys = filter-append (λ (v : Waiter). not (same_waiter w v)) xs ys

-- one that was taken out, and is none of those that came, is taken out of all
pub without_others : (w : Waiter) (xs ys : List Waiter) → is_among w (without_waiter w xs ++ ys) ≡ false → without_waiter w xs ++ ys ≡ without_waiter w (xs ++ ys)
without_others w xs ys away =
    sym (without_absent w (without_waiter w xs ++ ys) away)
    ∙ without_append w (without_waiter w xs) ys
    ∙ ap (λ (zs : List Waiter). zs ++ without_waiter w ys) (without_absent w (without_waiter w xs) (none_left w xs))
    ∙ sym (without_append w xs ys)

-- one that leaves after news is told no more
pub told_left : (news : News) (line : WaitList) (w : Waiter) (l : Waiting) → (left_after news line w l).woken ≡ without_waiter w (l.woken ++ told_after news line w l)
told_left news line w l =
    let told : Waiting = after_news news l in
    let away : is_among w (left_after news line w l).woken ≡ false = (times_nowhere w (left_after news line w l) (left_nowhere line w told)).woken in
    without_others w (l.woken ++ told_by news l) (told_by (passed_on line w told) (gone w told)) away
    ∙ ap (λ (ws : List Waiter). without_waiter w ws) (append_assoc l.woken (told_by news l) (told_by (passed_on line w told) (gone w told)))

-- the same, where those woken by the call are these
pub told_left_as : (news : News) (line : WaitList) (w : Waiter) (l : Waiting) (names : List Waiter) → names ≡ told_after news line w l → (left_after news line w l).woken ≡ without_waiter w (l.woken ++ names)
told_left_as news line w l names e = told_left news line w l ∙ ap (λ (ws : List Waiter). without_waiter w (l.woken ++ ws)) (sym e)

pub told_gone : (w : Waiter) (ws : List Waiter) → without_waiter w ws ≡ without_waiter w (ws ++ [])
told_gone w ws = ap (λ (xs : List Waiter). without_waiter w xs) (sym (append-nil ws))

pub told_away : (w : Waiter) (ws : List Waiter) → is_among w ws ≡ false → ws ≡ without_waiter w (ws ++ [])
told_away w ws away = sym (without_absent w ws away) ∙ told_gone w ws

both_counts : (line : WaitList) (w : Waiter) (l : Waiting) → times w (untold line l) + times w l.woken ≤ times_in w l
both_counts Sends w l = omega arith
both_counts line w l = omega arith

-- one that stands untold is not woken, nor the other way round
pub not_both : (kind : Kind) (line : WaitList) (w : Waiter) (l : Waiting) → Placed kind l → is_among w (untold line l) ≡ true → is_among w l.woken ≡ true → ⊥
not_both kind line w l placed u t = omega (arith, placed.once w, among_counts w l.woken t, among_counts w (untold line l) u, both_counts line w l)

stood_woken : (line : WaitList) (w : Waiter) (l : Waiting) (b : Bool) → is_among w (untold line l) ≡ b → b ≡ false → (standing line w l).woken ≡ without_waiter w l.woken
stood_woken Sends w l b e f = rw (e ∙ f) refl
stood_woken line w l b e f = rw (e ∙ f) refl

-- one that stands in its line after a poll is told no more
pub told_standing : (kind : Kind) (line : WaitList) (w : Waiter) (l : Waiting) → Placed kind l → (standing line w l).woken ≡ without_waiter w (l.woken ++ [])
told_standing kind line w l placed = elim (decided (is_among w (untold line l))) [
  | inl u ↦ elim (decided (is_among w l.woken)) [
    | inl t ↦ absurd (not_both kind line w l placed u t)
    | inr t ↦ let same : standing line w l ≡ l = rw u refl in ap (λ (m : Waiting). m.woken) same ∙ told_away w l.woken t
  ]
  | inr u ↦ stood_woken line w l false u refl ∙ told_gone w l.woken
]

-- ---- names

module _ {T : Type 0} where
  found_as : (o : Option (Option (Operation T))) (x : Operation T) → option_map_or (λ (y : Option (Operation T)). y) o None ≡ Some x → o ≡ Some (Some x)
  found_as None x e = cc e
  found_as (Some y) x e = ap (λ (z : Option (Operation T)). Some z) e

  -- an operation that is changed to what it was
  pub same_names : (op : OpId) (x : Operation T) (names : Names T) → at op.0 names.operations ≡ Some x → with_operation_changed op x names ≡ names
  same_names op x names there =
      ap (λ (d : Directory (Operation T)). let n : Names T = record { handles = names.handles; operations = d } in n)
      (set_value_same (nat_eq op.0) names.operations (Some x) (found_as (lookup (nat_eq op.0) names.operations) x there))
