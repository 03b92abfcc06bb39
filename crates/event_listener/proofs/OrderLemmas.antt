-- The order of listening through the operations on the two lists.
use Rattle.std.proofs.Common.{◌≡◌, ℕ, ◌+◌, Bool, true, false, cond, List, [], ◌∷◌, ◌++◌, length, take, drop, Option, Some, refl, sym, ap, subst, ◌∙◌, arith, append_assoc}
use Rattle.std.proofs.lemmas.List.{map-append}
use Rattle.std.specs.Map.{remove_entry, set_value}
use Rattle.event_listener.specs.declared.key.Key.{Key}
use Rattle.event_listener.specs.Lists.{Lists, serial_of, same_key, without, with_task, listened_with, notified, told_with}
use Rattle.event_listener.specs.Order.{AllAbove, Ascending, serials_of, IsInOrder}

above-next : (n s : ℕ) (ns : List ℕ) → AllAbove n (ns ++ s ∷ []) → AllAbove n (ns ++ s ∷ (s + 1) ∷ [])
above-next n s [] h = (h.0, (omega (arith, h.0), tt))
above-next n s (m ∷ ms) h = (h.0, above-next n s ms h.1)

ascending-next : (s : ℕ) (ns : List ℕ) → Ascending (ns ++ s ∷ []) → Ascending (ns ++ s ∷ (s + 1) ∷ [])
ascending-next s [] h = ((omega arith, tt), (tt, tt))
ascending-next s (m ∷ ms) h = (above-next m s ms h.0, ascending-next s ms h.1)

module _ {X : Type 0} (test : Key → Bool) where
  above-cut : (n : ℕ) (es : List (Key × X)) (zs : List ℕ) → AllAbove n (serials_of es ++ zs) → AllAbove n (serials_of (remove_entry test es) ++ zs)
  above-cut n [] zs h = h
  above-cut n (e ∷ es) zs h = by (test e.0) (above-cut n es zs h.1)
    where
      by : (b : Bool) → AllAbove n (serials_of (remove_entry test es) ++ zs) → AllAbove n (serials_of (cond b es (e ∷ remove_entry test es)) ++ zs)
      by true r = h.1
      by false r = (h.0, r)

  ascending-cut : (es : List (Key × X)) (zs : List ℕ) → Ascending (serials_of es ++ zs) → Ascending (serials_of (remove_entry test es) ++ zs)
  ascending-cut [] zs h = h
  ascending-cut (e ∷ es) zs h = by (test e.0) (ascending-cut es zs h.1)
    where
      by : (b : Bool) → Ascending (serials_of (remove_entry test es) ++ zs) → Ascending (serials_of (cond b es (e ∷ remove_entry test es)) ++ zs)
      by true r = h.1
      by false r = (above-cut (serial_of e.0) es zs h.0, r)

  above-cut-behind : (n : ℕ) (xs : List ℕ) (es : List (Key × X)) (zs : List ℕ) → AllAbove n (xs ++ (serials_of es ++ zs)) → AllAbove n (xs ++ (serials_of (remove_entry test es) ++ zs))
  above-cut-behind n [] es zs h = above-cut n es zs h
  above-cut-behind n (x ∷ xs) es zs h = (h.0, above-cut-behind n xs es zs h.1)

  ascending-cut-behind : (xs : List ℕ) (es : List (Key × X)) (zs : List ℕ) → Ascending (xs ++ (serials_of es ++ zs)) → Ascending (xs ++ (serials_of (remove_entry test es) ++ zs))
  ascending-cut-behind [] es zs h = ascending-cut es zs h
  ascending-cut-behind (x ∷ xs) es zs h = (above-cut-behind x xs es zs h.0, ascending-cut-behind xs es zs h.1)

  serials-set_value : (es : List (Key × X)) (w : X) → serials_of (set_value test es w) ≡ serials_of es
  serials-set_value [] w = refl
  serials-set_value (e ∷ es) w = by (test e.0) (serials-set_value es w)
    where
      by : (b : Bool) → serials_of (set_value test es w) ≡ serials_of es → serials_of (cond b ((e.0, w) ∷ es) (e ∷ set_value test es w)) ≡ serials_of (e ∷ es)
      by true r = refl
      by false r = ap (λ ns. serial_of e.0 ∷ ns) r

module _ {T W : Type 0} where
  serials-told_with : (additional : Bool) (ws : List (Key × Option W)) (ts : List T) → serials_of (told_with additional (take (length ts) ws) ts) ++ serials_of (drop (length ts) ws) ≡ serials_of ws
  serials-told_with additional [] [] = refl
  serials-told_with additional (w ∷ ws) [] = refl
  serials-told_with additional [] (t ∷ ts) = refl
  serials-told_with additional (w ∷ ws) (t ∷ ts) = ap (λ ns. serial_of w.0 ∷ ns) (serials-told_with additional ws ts)

  pub in-order-listened : (lists : Lists T W) (task : Option W) (key : Key) → IsInOrder lists (serial_of key) → IsInOrder (listened_with task key lists) (serial_of key + 1)
  in-order-listened lists task key h =
      let s = serial_of key in
      let front = serials_of lists.told ++ serials_of lists.waiting in
      let m : serials_of (lists.waiting ++ (key, task) ∷ []) ≡ serials_of lists.waiting ++ s ∷ [] = map-append (λ e. serial_of e.0) lists.waiting ((key, task) ∷ []) in
      subst Ascending
      (sym (append_assoc front (s ∷ []) ((s + 1) ∷ []))
      ∙ ap (λ ns. ns ++ (s + 1) ∷ []) (append_assoc (serials_of lists.told) (serials_of lists.waiting) (s ∷ []) ∙ ap (λ ns. serials_of lists.told ++ ns) (sym m)))
      (ascending-next s front h)

  pub in-order-without : (lists : Lists T W) (next : ℕ) (key : Key) → IsInOrder lists next → IsInOrder (without key lists) next
  in-order-without lists next key h =
      let new = without key lists in
      subst Ascending (sym (append_assoc (serials_of new.told) (serials_of new.waiting) (next ∷ [])))
      (ascending-cut-behind (same_key key) (serials_of new.told) lists.waiting (next ∷ [])
      (ascending-cut (same_key key) lists.told (serials_of lists.waiting ++ next ∷ [])
      (subst Ascending (append_assoc (serials_of lists.told) (serials_of lists.waiting) (next ∷ [])) h)))

  pub in-order-with_task : (lists : Lists T W) (next : ℕ) (key : Key) (task : W) → IsInOrder lists next → IsInOrder (with_task key task lists) next
  in-order-with_task lists next key task h =
      subst (λ ns. Ascending (serials_of lists.told ++ ns ++ next ∷ [])) (sym (serials-set_value (same_key key) lists.waiting (Some task))) h

  pub in-order-notified : (lists : Lists T W) (next : ℕ) (additional : Bool) (ts : List T) → IsInOrder lists next → IsInOrder (notified additional ts lists) next
  in-order-notified lists next additional ts h =
      let new = notified additional ts lists in
      let tw = told_with additional (take (length ts) lists.waiting) ts in
      let m : serials_of new.told ≡ serials_of lists.told ++ serials_of tw = map-append (λ e. serial_of e.0) lists.told tw in
      subst Ascending
      (ap (λ ns. serials_of lists.told ++ ns ++ next ∷ []) (sym (serials-told_with additional lists.waiting ts))
      ∙ ap (λ ns. ns ++ next ∷ []) (sym (append_assoc (serials_of lists.told) (serials_of tw) (serials_of new.waiting)))
      ∙ ap (λ ns. ns ++ serials_of new.waiting ++ next ∷ []) (sym m))
      h

  pub in-order-at : {lists new : Lists T W} {next after : ℕ} → IsInOrder lists next → new ≡ lists → after ≡ next → IsInOrder new after
  in-order-at {lists} {new} {next} {after} h l n = subst (λ (x : Lists T W × ℕ). IsInOrder x.0 x.1) (λ i. (sym l i, sym n i)) h
