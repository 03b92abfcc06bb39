-- The words' steps are the numbers' steps: the exchange of the tail, and a held block that comes into the chain.
use Rattle.std.proofs.Common.{◌≡◌, ℕ, zero, suc, ◌+◌, ◌-◌, ◌*◌, ◌/◌, ◌%◌, ◌^◌, ◌<◌, ⊎_elim, Bool, true, false, if◌then◌else◌, ◌==◌, List, [], ◌∷◌, length, Option, None, Some, slice_get, refl, sym, ap, ◌∙◌, subst, inl, inr, arith}
use Rattle.std.proofs.Math.Nat.{mod-eq_of_lt}
use Rattle.std.proofs.lemmas.Bool.{cases_lt}
use Rattle.concurrent_queue.specs.Contents.{Contents, block_at, blank, zeros, nones}
use Rattle.concurrent_queue.specs.Contents as words
use Rattle.concurrent_queue.specs.machine.BlocksState.{Blocks, SoundBlocks, Spot, unmade, held, used, one_if, chained, position, number}
use Rattle.concurrent_queue.specs.machine.BlocksCalls.{push_swap, push_put, push_turn}
use Rattle.concurrent_queue.specs.machine.BlocksMoves.{Moves, swap_wins, swap_wins_edge, extended, seeking}
use Rattle.concurrent_queue.specs.machine.Places.{Each}
use Rattle.std.proofs.lemmas.Bool.Decides.{nat_tests}
use Rattle.concurrent_queue.proofs.BlocksAsks.{number_rest, number_turn, half}
use Rattle.concurrent_queue.specs.machine.BlocksDenotes.{IsTailAt, IsHeadAt, Denotes, IsBlock, Shows, is_spare, IsIdle}
use Rattle.concurrent_queue.specs.declared.call.QueueMark.TheVariants as mark
use Rattle.concurrent_queue.proofs.BlocksBasics.{by_bool}
use Rattle.concurrent_queue.proofs.BlocksSteps.{pick_other, pick_here, by_eq, taken_none}

pub zeros_at : (i : ℕ) → i < 31 → slice_get zeros i ≡ Some 0
unfolding zeros
zeros_at i h = all_zero (words.in_each 0) (refl, (refl, (refl, (refl, (refl, (refl, (refl, (refl, (refl, (refl, (refl, (refl, (refl, (refl, (refl, (refl, (refl, (refl, (refl, (refl, (refl, (refl, (refl, (refl, (refl, (refl, (refl, (refl, (refl, (refl, (refl, tt))))))))))))))))))))))))))))))) i h
  where
    all_zero : (xs : List ℕ) → Each (λ (x : ℕ). x ≡ 0) xs → (i : ℕ) → i < length xs → slice_get xs i ≡ Some 0
    all_zero [] all i h = absurd (omega arith)
    all_zero (x ∷ xs) all zero h = ap Some all.0
    all_zero (x ∷ xs) all (suc i) h = all_zero xs all.1 i (omega arith)

pub nones_at : {T : Type 0} (i : ℕ) → i < 31 → slice_get (nones {T = T}) i ≡ Some None
unfolding nones
nones_at {T} i h = all_none (words.in_each None) (refl, (refl, (refl, (refl, (refl, (refl, (refl, (refl, (refl, (refl, (refl, (refl, (refl, (refl, (refl, (refl, (refl, (refl, (refl, (refl, (refl, (refl, (refl, (refl, (refl, (refl, (refl, (refl, (refl, (refl, (refl, tt))))))))))))))))))))))))))))))) i h
  where
    all_none : (xs : List (Option T)) → Each (λ (x : Option T). x ≡ None) xs → (i : ℕ) → i < length xs → slice_get xs i ≡ Some None
    all_none [] all i h = absurd (omega arith)
    all_none (x ∷ xs) all zero h = ap Some all.0
    all_none (x ∷ xs) all (suc i) h = all_none xs all.1 i (omega arith)

module _ {T : Type 0} (c : Contents T) (r : Blocks T) (queue : List T) (s : SoundBlocks r queue) (d : Denotes c r) where
  -- a tail word of an open queue at rest at n says all that
  pub meets : (n : ℕ) → c.tail ≡ 2 * position n false → (r.closed ≡ false) × (r.tail_turns ≡ false) × (r.tail ≡ n)
  meets n e = by_bool r.closed
      (λ f. by_bool r.tail_turns
      (λ g. (f, g, let t : c.tail ≡ 2 * position r.tail false + 0 = rw (g, f) at d.tail in omega arith))
      (λ g. absurd (let t : c.tail ≡ 2 * position r.tail true + 0 = rw (g, f) at d.tail in let p = (s.paged g).1 in omega arith)))
      (λ f. absurd (let t : c.tail ≡ 2 * position r.tail r.tail_turns + 1 = rw f at d.tail in omega arith))

  pub wins_words : (v : T) (n b : ℕ) (h : Option ℕ) → 2 * position n false + 2 < 2 ^ 64 → (n % 31 ≡ 30 → ⊥) → c.tail ≡ 2 * position n false
      → Denotes (record c { tail = (2 * position n false + 2) % 2 ^ 64 }) (extended r v false) × Moves r (push_swap v n b h) (extended r v false) (push_put v n b h) mark.Append None
  wins_words v n b h small ne e =
      let m = meets n e in
      let low : n % 31 < 30 = ⊎_elim (λ q. q) (λ q. ⊎_elim (λ g. absurd (ne (omega arith))) (λ g. absurd (omega arith)) (cases_lt (n % 31) 31)) (cases_lt (n % 31) 30) in (
        record {
          head = d.head;
          tail = mod-eq_of_lt small ∙ rw m.0 (omega (arith, m.2));
          head_block = d.head_block;
          tail_block = d.tail_block;
          used = λ k l f. (let x = d.used k l f in record { next = x.next; reads = x.reads; written = x.written; slots = x.slots });
          numbered = d.numbered;
          idle = d.idle;
          spares = d.spares;
          made = d.made;
          few = d.few;
        },
        seeking (swap_wins refl m.2 m.1 m.0 ne),
      )

  pub wins_edge_words : (v : T) (n b h : ℕ) → 2 * position n false + 2 < 2 ^ 64 → n % 31 ≡ 30 → c.tail ≡ 2 * position n false
      → Denotes (record c { tail = (2 * position n false + 2) % 2 ^ 64 }) (extended r v true) × Moves r (push_swap v n b (Some h)) (extended r v true) (push_turn v n b h) mark.Append None
  wins_edge_words v n b h small ed e =
      let m = meets n e in (
        record {
          head = d.head;
          tail = mod-eq_of_lt small ∙ rw m.0 (omega (arith, m.2));
          head_block = d.head_block;
          tail_block = d.tail_block;
          used = λ k l f. (let x = d.used k l f in record { next = x.next; reads = x.reads; written = x.written; slots = x.slots });
          numbered = d.numbered;
          idle = d.idle;
          spares = d.spares;
          made = d.made;
          few = d.few;
        },
        seeking (swap_wins_edge refl m.2 m.1 m.0 ed),
      )

  held_unmade : held ≡ unmade → ⊥
  held_unmade q = absurd cc

  there : (h : ℕ) → r.spot h ≡ held → h < length c.blocks
  there h e = ⊎_elim (λ g. g) (λ g. absurd (held_unmade (sym e ∙ d.made h g))) (cases_lt h (length c.blocks))

  linked_next : (h k : ℕ) (l : Bool) → (l ≡ true → k + 1 < r.last) → (if l then r.num (k + 1) + 1 else 0) ≡ (if l then (chained r h).num (k + 1) + 1 else 0)
  linked_next h k false low = refl
  linked_next h k true low = sym (ap (λ (x : ℕ). x + 1) (pick_other (k + 1) r.last h (r.num (k + 1)) (λ q. let g = low refl in omega arith)))

  idle_held : (x : Spot) → x ≡ held → IsIdle x
  idle_held x e = subst IsIdle (sym e) tt

  -- a held block is blank, and so is what the next ordinal stands for: storing its number brings it into the chain
  pub chain_words : (h : ℕ) → r.spot h ≡ held → r.tail ≡ 31 * r.last → Denotes (record c { tail_block = (h + 1) % 2 ^ 64 }) (chained r h)
  chain_words h e at =
      let in_range = there h e in
      let o = s.order in
      let few = d.few in
      record {
        head = d.head;
        tail = d.tail;
        head_block = ⊎_elim (λ g. inl g) (λ g. inr (g.0, g.1 ∙ sym (ap (λ (x : ℕ). x + 1) (pick_other (r.first - 1) r.last h (r.num (r.first - 1)) (λ q. let i = s.inside in let p = g.0 in omega arith))))) d.head_block;
        tail_block = inr (omega arith, mod-eq_of_lt (omega arith) ∙ sym (ap (λ (x : ℕ). x + 1) (pick_here (r.last + 1 - 1) r.last h (r.num (r.last + 1 - 1)) (omega arith))));
        used = λ k l f. ⊎_elim
            (λ g. (let x = d.used k g f in
            let n' : (chained r h).num k ≡ r.num k = pick_other k r.last h (r.num k) (λ q. omega arith) in
            subst (λ (j : ℕ). IsBlock (chained r h) k (block_at c j)) (sym n') (record { next = x.next ∙ linked_next h k (r.block k).linked (s.linked k); reads = x.reads; written = x.written; slots = x.slots })))
            (λ g. (let q : k ≡ r.last = omega arith in
            let n' : (chained r h).num k ≡ h = pick_here k r.last h (r.num k) q in
            let blank_is : block_at c ((chained r h).num k) ≡ blank = ap (block_at c) n' ∙ d.idle h (idle_held (r.spot h) e) in
            subst (λ (x : words.BlockCells T). IsBlock (chained r h) k x) (sym blank_is) (fresh_block h k (omega arith)))) (cases_lt k r.last);
        numbered = λ k l. ⊎_elim
            (λ g. subst (λ (j : ℕ). j < length c.blocks) (sym (pick_other k r.last h (r.num k) (λ q. omega arith))) (d.numbered k g))
            (λ g. subst (λ (j : ℕ). j < length c.blocks) (sym (pick_here k r.last h (r.num k) (omega arith))) in_range) (cases_lt k r.last);
        idle = λ b i. by_eq b h (λ q. absurd (subst IsIdle (pick_here b h (used r.last) (r.spot b) q) i)) (λ ne. d.idle b (subst IsIdle (pick_other b h (used r.last) (r.spot b) ne) i));
        spares = λ b. d.spares b ∙ ap one_if (by_eq b h (λ q. ap is_spare (ap r.spot q ∙ e) ∙ sym (ap is_spare (pick_here b h (used r.last) (r.spot b) q))) (λ ne. sym (ap is_spare (pick_other b h (used r.last) (r.spot b) ne))));
        made = λ b l. pick_other b h (used r.last) (r.spot b) (λ q. omega arith) ∙ d.made b l;
        few = d.few;
      }
    where
      fresh_block : (h k : ℕ) → r.tail ≡ 31 * k → IsBlock (chained r h) k blank
      fresh_block h k at =
          let o = s.order in
          let none = taken_none r.head k (omega arith) in
          record {
            next = sym (rw (s.unlinked k (omega arith)) refl);
            reads = let q = s.reads k in omega (arith, none);
            written = λ i b. zeros_at i b ∙ sym (rw ((s.fresh (31 * k + i) (omega arith)).0) refl);
            slots = λ i b. nones_at i b ∙ sym (ap Some (s.fresh (31 * k + i) (omega arith)).1);
          }

  -- only positions, the flag and the first block change: the blocks stand for what they did
  pub words_only : (l : List T) (x : ℕ) (y : Bool) (z : ℕ) (w o : Bool) (f ch ct cb : ℕ) → ch ≡ position x y → ct ≡ 2 * position z w + one_if o → Shows r f cb
      → Denotes (record c { head = ch; tail = ct; head_block = cb }) (record r { all = l; head = x; head_turns = y; tail = z; tail_turns = w; closed = o; first = f })
  words_only l x y z w o f ch ct cb h t b = record {
    head = h;
    tail = t;
    head_block = b;
    tail_block = d.tail_block;
    used = λ k i g. (let e = d.used k i g in record { next = e.next; reads = e.reads; written = e.written; slots = e.slots });
    numbered = d.numbered;
    idle = d.idle;
    spares = d.spares;
    made = d.made;
    few = d.few;
  }

  -- what the loads find
  pub closed_is : (c.tail % 2 == 1) ≡ r.closed
  closed_is = by_bool r.closed
      (λ f. let t : c.tail ≡ 2 * position r.tail r.tail_turns + 0 = rw f at d.tail in let q : c.tail % 2 ≡ 0 = omega arith in let e : (c.tail % 2 == 1) ≡ false = grind (arith, nat_tests) in e ∙ sym f)
      (λ f. let t : c.tail ≡ 2 * position r.tail r.tail_turns + 1 = rw f at d.tail in let q : c.tail % 2 ≡ 1 = omega arith in let e : (c.tail % 2 == 1) ≡ true = grind (arith, nat_tests) in e ∙ sym f)

  pub half_is : c.tail / 2 ≡ position r.tail r.tail_turns
  half_is = ap (λ (t : ℕ). t / 2) d.tail ∙ half (position r.tail r.tail_turns) r.closed

  pub tail_turns_is : (c.tail / 2 % 32 == 31) ≡ r.tail_turns
  tail_turns_is = by_bool r.tail_turns
      (λ f. let p : c.tail / 2 ≡ position r.tail false = rw f at half_is in let q : c.tail / 2 % 32 < 31 = omega arith in let e : (c.tail / 2 % 32 == 31) ≡ false = grind (arith, nat_tests) in e ∙ sym f)
      (λ f. let p : c.tail / 2 ≡ position r.tail true = rw f at half_is in let g = (s.paged f).1 in let q : c.tail / 2 % 32 ≡ 31 = omega arith in let e : (c.tail / 2 % 32 == 31) ≡ true = grind (arith, nat_tests) in e ∙ sym f)

  pub head_turns_is : (c.head % 32 == 31) ≡ r.head_turns
  head_turns_is = by_bool r.head_turns
      (λ f. let p : c.head ≡ position r.head false = rw f at d.head in let q : c.head % 32 < 31 = omega arith in let e : (c.head % 32 == 31) ≡ false = grind (arith, nat_tests) in e ∙ sym f)
      (λ f. let p : c.head ≡ position r.head true = rw f at d.head in let g = (s.turned f).3 in let q : c.head % 32 ≡ 31 = omega arith in let e : (c.head % 32 == 31) ≡ true = grind (arith, nat_tests) in e ∙ sym f)

  pub tail_number_is : number (c.tail / 2) ≡ r.tail
  tail_number_is = ap number half_is ∙ by_bool r.tail_turns (λ f. rw f (number_rest r.tail)) (λ f. rw f (number_turn r.tail (s.paged f).1 (s.paged f).2))

  pub head_number_is : number c.head ≡ r.head
  head_number_is = ap number d.head ∙ by_bool r.head_turns (λ f. rw f (number_rest r.head)) (λ f. rw f (number_turn r.head (s.turned f).3 (s.turned f).0))

  -- a tail word that an action goes by is the queue's, or not
  pub tail_at : (t : ℕ) → IsTailAt t → t ≡ 2 * position (number (t / 2)) false
  tail_at t h = let a = h.0 in let b = h.1 in omega arith

  pub head_at : (p : ℕ) → IsHeadAt p → p ≡ position (number p) false
  head_at p h = omega arith

  pub tail_met : (t : ℕ) → IsTailAt t → c.tail ≡ t → (r.closed ≡ false) × (r.tail_turns ≡ false) × (r.tail ≡ number (t / 2))
  tail_met t h e = meets (number (t / 2)) (e ∙ tail_at t h)

  pub tail_lost : (t : ℕ) → IsTailAt t → (c.tail ≡ t → ⊥) → r.tail ≡ number (t / 2) → r.closed ≡ false → r.tail_turns ≡ false → ⊥
  tail_lost t h ne e o f = ne (let w : c.tail ≡ 2 * position r.tail false + 0 = rw (f, o) at d.tail in let a = tail_at t h in omega arith)

  pub head_met : (p : ℕ) → IsHeadAt p → c.head ≡ p → (r.head_turns ≡ false) × (r.head ≡ number p)
  head_met p h e = (
    by_bool r.head_turns (λ f. f)
        (λ f. absurd (let w : c.head ≡ position r.head true = rw f at d.head in let g = (s.turned f).3 in omega arith)),
    sym head_number_is ∙ ap number e,
  )

  pub head_lost : (p : ℕ) → IsHeadAt p → (c.head ≡ p → ⊥) → r.head ≡ number p → r.head_turns ≡ false → ⊥
  head_lost p h ne e f = ne (let w : c.head ≡ position r.head false = rw f at d.head in let a = head_at p h in omega arith)
