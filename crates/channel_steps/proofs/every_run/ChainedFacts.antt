-- The blocks that an unbounded queue has used follow one another as its words and its calls under way say.
use Rattle.std.proofs.Common.{◌≡◌, ℕ, ◌+◌, ◌-◌, ◌/◌, ◌%◌, ◌<◌, ◌≤◌, ◌⊎◌, ⊎_elim, Bool, true, false, if◌then◌else◌, ◌==◌, ◌&&◌, not, nat_lt, List, [], ◌∷◌, length, map, Option, None, Some, slice_get, refl, sym, ap, ◌∙◌, subst, inl, inr, arith}
use Rattle.std.proofs.lemmas.Bool.{false≢true}
use Rattle.std.proofs.lemmas.Bool.Decides.{nat_tests}
use Rattle.channel_steps.proofs.every_run.Words.{Contents, block_at, Queue, Phase, ActiveQueueCall, AreAt, IsAtBlocks, FitsForm, Place, Each, start, owed, one_if, number, position, KnowsBlocks, same, owes, BlocksSeat, BlocksMeans, owners, Denotes, act_of, seat_of, IsChain, begin, QueueAsk, QueueForm, Bounded, Unbounded, CallState, Asked, Blocks, UnboundedAction, UnboundedCall, MayHave, SoundBlocks, Duty, link, turn_head, turn_tail, TurnsTheHead, Turns, first_named, pair_linked, NamesTheHead, Links, AreBlocks, ChainBy}
use Rattle.concurrent_queue.specs.Step.{FitsAt}
use Rattle.concurrent_queue.specs.machine.BlocksState.{Blocks as BlocksNumbers}
use Rattle.concurrent_queue.specs.declared.call.QueueAsk.TheVariants as ask
use Rattle.concurrent_queue.specs.declared.unbounded.action.UnboundedAction.TheVariants as blocks
use Rattle.channel_steps.proofs.every_run.PutFacts.{some_is, by_bool, by_eq, same_not, taken_all, taken_full, get_inside, head_number}

none_some : {A : Type 0} {x : A} → None ≡ Some x → ⊥
none_some e = absurd cc

owed_link : (k n : ℕ) (l : Bool) → k < n → l ≡ false → one_if (nat_lt k n && not l) ≡ 1
owed_link k n l h e = let f : nat_lt k n ≡ true = grind (arith, nat_tests) in rw (e, f) refl

owed_start : (f l : ℕ) → f ≡ 0 → 0 < l → one_if (f == 0 && nat_lt 0 l) ≡ 1
owed_start f l e h = let g : nat_lt 0 l ≡ true = grind (arith, nat_tests) in
    let z : (f == 0) ≡ true = grind (arith, nat_tests) in rw (g, z) refl

none_of : {A : Type 0} (xs : List A) → length xs ≡ 0 → xs ≡ []
none_of [] e = refl
none_of (x ∷ xs) e = absurd (omega arith)

module _ {T : Type 0} where
  -- some of these calls is so
  abbrev pub SomeSeat : List (ActiveQueueCall T) → (CallState T → Type 0) → Type 0
  SomeSeat [] P = ⊥
  SomeSeat (s ∷ ss) P = P s.call.state ⊎ SomeSeat ss P

  abbrev SomePlace : (UnboundedAction T → Type 0) → List (Place (UnboundedCall T) T) → Type 0
  SomePlace Q [] = ⊥
  SomePlace Q (p ∷ ps) = Q p.action.action ⊎ SomePlace Q ps

  to_seat : (Q : UnboundedAction T → Type 0) (P : CallState T → Type 0) → ((s : CallState T) (a : UnboundedCall T) → IsAtBlocks s a
      → Q a.action → P s)
      → (ss : List (ActiveQueueCall T)) (ps : List (Place (UnboundedCall T) T)) → AreAt IsAtBlocks ss ps → SomePlace Q ps → SomeSeat ss P
  to_seat Q P is [] [] h g = absurd g
  to_seat Q P is (s ∷ ss) (p ∷ ps) h (inl g) = inl (is s.call.state p.action h.0.0 g)
  to_seat Q P is (s ∷ ss) (p ∷ ps) h (inr g) = inr (to_seat Q P is ss ps h.1 g)
  to_seat x y is z w h g = absurd h

  names_is : (b : ℕ) (s : CallState T) (a : UnboundedCall T) → IsAtBlocks s a → first_named a.action ≡ Some b → NamesTheHead b s
  names_is b (Blocks y) a e g = subst (λ (z : UnboundedCall T). first_named z.action ≡ Some b) e g
  names_is b (Asked k) a e g = absurd (start_none k (subst (λ (z : UnboundedCall T). first_named z.action ≡ Some b) e g))
    where
      start_none : (k : QueueAsk T) → first_named (begin k).action ≡ Some b → ⊥
      start_none (ask.Push v) h = absurd cc
      start_none k h = absurd cc
  names_is b x a e g = absurd e

  links_is : (b d : ℕ) (s : CallState T) (a : UnboundedCall T) → IsAtBlocks s a → pair_linked a.action ≡ Some (b, d) → Links b d s
  links_is b d (Blocks y) a e g = subst (λ (z : UnboundedCall T). pair_linked z.action ≡ Some (b, d)) e g
  links_is b d (Asked k) a e g = absurd (start_none k (subst (λ (z : UnboundedCall T). pair_linked z.action ≡ Some (b, d)) e g))
    where
      start_none : (k : QueueAsk T) → pair_linked (begin k).action ≡ Some (b, d) → ⊥
      start_none (ask.Push v) h = absurd cc
      start_none k h = absurd cc
  links_is b d x a e g = absurd e

  turns_is : (stored : Bool) (s : CallState T) (a : UnboundedCall T) → IsAtBlocks s a → TurnsTheHead stored a.action → Turns stored s
  turns_is stored (Blocks y) a e g = subst (λ (z : UnboundedCall T). TurnsTheHead stored z.action) e g
  turns_is stored (Asked k) a e g = absurd (start_none stored k (subst (λ (z : UnboundedCall T). TurnsTheHead stored z.action) e g))
    where
      start_none : (stored : Bool) (k : QueueAsk T) → TurnsTheHead stored (begin k).action → ⊥
      start_none true (ask.Push v) h = h
      start_none false (ask.Push v) h = h
      start_none true k h = h
      start_none false k h = h
  turns_is stored x a e g = absurd e

  module _ (r : BlocksNumbers T) where
    -- a call that owes this
    owner : {P : Type 0} (Q : UnboundedAction T → Type 0) (e : Duty) (ps : List (Place (UnboundedCall T) T)) → 1 ≤ owners e (map seat_of ps)
        → Each (λ (s : BlocksSeat T). KnowsBlocks r s.act s.phase) (map seat_of ps)
        → ((a : UnboundedAction T) (p : Phase T) → KnowsBlocks r (act_of a) p → 1 ≤ owes (act_of a) e → P ⊎ Q a) → P ⊎ SomePlace Q ps
    owner Q e [] h k f = absurd (omega arith)
    owner Q e (p ∷ ps) h k f = by_eq (owes (act_of p.action.action) e) 0
        (λ z. ⊎_elim (λ g. inl g) (λ g. inr (inr g)) (owner Q e ps (omega (arith, z)) k.1 f))
        (λ ne. ⊎_elim (λ g. inl g) (λ g. inr (inl g)) (f p.action.action p.phase k.0 (omega arith)))

    its_own : (k m : ℕ) → 1 ≤ same m k → m ≡ k
    its_own k m h = by_eq k m (λ e. sym e) (λ ne. absurd (let z = same_not m k ne in omega arith))

    -- who owes the first head_block names it
    starts : (a : UnboundedAction T) (p : Phase T) → KnowsBlocks r (act_of a) p → 1 ≤ owes (act_of a) start
        → ⊥ ⊎ (first_named a ≡ Some (r.num 0))
    starts (blocks.PushStart w t b) p k l = inr (ap Some k.5)
    starts a p k l = absurd (omega arith)

    next_pair : (k m b h : ℕ) → m ≡ k → b ≡ r.num m → h ≡ r.num (m + 1)
        → ◌≡◌ {A = Option (ℕ × ℕ)} (Some (b, h)) (Some (r.num k, r.num (k + 1)))
    next_pair k m b h e f g =
        let one : ◌≡◌ {A = Option (ℕ × ℕ)} (Some (b, h)) (Some (r.num k, h)) = ap (λ (x : ℕ). let z : Option (ℕ
        × ℕ) = Some (x, h) in z) (f ∙ ap r.num e) in
        one ∙ ap (λ (x : ℕ). let z : Option (ℕ × ℕ) = Some (r.num k, x) in z) (g ∙ ap (λ (j : ℕ). r.num (j + 1)) e)

    -- who owes the link of a block that is not the last one knows the next
    links : (k : ℕ) → k + 1 < r.last → (a : UnboundedAction T) (p : Phase T) → KnowsBlocks r (act_of a) p → 1 ≤ owes (act_of a) (link k)
        → ⊥ ⊎ (pair_linked a ≡ Some (r.num k, r.num (k + 1)))
    links k short (blocks.PushTurn w t b h) p f l =
        let e = its_own k (number (t / 2) / 31) l in let z = f.5 in absurd (omega (arith, e, z, short))
    links k short (blocks.PushAdd w t b h) p f l =
        inr (next_pair k (number (t / 2) / 31) b h (its_own k (number (t / 2) / 31) l) f.0.4.1 f.5)
    links k short (blocks.PushLink w t b h) p f l =
        inr (next_pair k (number (t / 2) / 31) b h (its_own k (number (t / 2) / 31) l) f.0.4.1 f.3)
    links k short a p f l = absurd (omega arith)

    -- where the tail's page is being turned, the next block has come or not
    tail_page : (a : UnboundedAction T) (p : Phase T) → KnowsBlocks r (act_of a) p → 1 ≤ owes (act_of a) turn_tail
        → (r.last ≤ r.tail / 31 + 1) ⊎ ⊥
    tail_page (blocks.PushTurn w t b h) p f l = let x = f.2 in let y = f.3 in let z = f.5 in inl (omega (arith, x, y, z))
    tail_page (blocks.PushAdd w t b h) p f l = let x = f.1 in let y = f.2 in let z = f.4 in inl (omega (arith, x, y, z))
    tail_page a p f l = absurd (omega arith)

    -- where the head's page is being turned, the head's block is the next one, or still the one before it, which is in use
    abbrev HeadPage : UnboundedAction T → Type 0
    HeadPage a = ((r.first ≡ r.head / 31 + 1) × TurnsTheHead true a)
        ⊎ ((r.first ≡ r.head / 31) × (1 ≤ r.first) × ((r.block (r.first - 1)).retired ≡ false) × TurnsTheHead false a)

    module _ (items : List T) (s : SoundBlocks r items) where
      in_use : (n : ℕ) (v : T) → ((r.cell n).written ≡ true → (r.cell n).slot ≡ Some v) → (r.block (n / 31)).retired ≡ false
      in_use n v full = by_bool (r.block (n / 31)).retired (λ f. f)
          (λ f. absurd (let done = s.done n (s.retired (n / 31) f) in none_some (sym done.1 ∙ full done.0)))

      head_page : (a : UnboundedAction T) (p : Phase T) → KnowsBlocks r (act_of a) p → 1 ≤ owes (act_of a) turn_head → ⊥ ⊎ HeadPage a
      head_page (blocks.PopNext j b) p f l =
          let x = f.2 in let y = f.3 in let z = f.5 in
          let at : number j / 31 ≡ r.first - 1 = omega (arith, z) in
          inr (inr (
            omega (arith, x, y, z),
            omega (arith, z),
            subst
                (λ (k : ℕ). (r.block k).retired ≡ false) at (in_use (number j) f.0 f.1.5),
            tt,
          ))
      head_page (blocks.PopBlock j b c) p f l =
          let x = f.2 in let y = f.3 in let z = f.5 in
          let at : number j / 31 ≡ r.first - 1 = omega (arith, z) in
          inr (inr (
            omega (arith, x, y, z),
            omega (arith, z),
            subst
                (λ (k : ℕ). (r.block k).retired ≡ false) at (in_use (number j) f.0 f.1.5),
            tt,
          ))
      head_page (blocks.PopHead j b) p f l = let x = f.2 in let y = f.3 in let z = f.5 in inr (inl (omega (arith, x, y, z), tt))
      head_page a p f l = absurd (omega arith)

  no_place : (ps : List (Place (UnboundedCall T) T)) → SomePlace (λ a. ⊥) ps → ⊥
  no_place [] h = h
  no_place (p ∷ ps) (inl h) = h
  no_place (p ∷ ps) (inr h) = no_place ps h

  module _ (c : Contents T) (q : Queue T) (ss : List (ActiveQueueCall T)) (ps : List (Place (UnboundedCall T) T)) (r : BlocksNumbers T)
      (d : Denotes c r)
      (means : BlocksMeans r q (map seat_of ps)) (are : AreAt IsAtBlocks ss ps) (chain : List ℕ) (of : IsChain chain r) where
    s : SoundBlocks r q.items
    s = means.stands.sound

    -- who owes something that is owed once
    owing : {P : Type 0} (Q : UnboundedAction T → Type 0) (e : Duty) → owed r e ≡ 1
        → ((a : UnboundedAction T) (p : Phase T) → KnowsBlocks r (act_of a) p → 1 ≤ owes (act_of a) e → P ⊎ Q a) → P ⊎ SomePlace Q ps
    owing Q e one f = let o = means.owners e in owner r Q e ps (omega (arith, o, one)) means.seats f

    tail_at : r.last ≤ r.tail / 31 + 1
    tail_at = by_bool r.tail_turns
        (λ f. ⊎_elim (λ g. omega (arith, g)) (λ g. let z = g.0 in omega (arith, z)) (s.last f))
        (λ f. ⊎_elim (λ g. g) (λ g. absurd (no_place ps g)) (owing (λ a. ⊥) turn_tail (ap one_if f) (tail_page r)))

    abbrev HeadAt : Type 0
    HeadAt = ((c.head % 32 < 31) × (((r.first ≡ 0) × (r.head ≡ 0)) ⊎ (r.first ≡ r.head / 31 + 1)))
        ⊎ ((c.head % 32 ≡ 31) × ((r.first ≡ r.head / 31 + 1) × SomeSeat ss (Turns true))
        ⊎ ((c.head % 32 ≡ 31) × (r.first ≡ r.head / 31) × (1 ≤ r.first) × ((r.block (r.first - 1)).retired ≡ false)
        × SomeSeat ss (Turns false)))

    at_turn : (b : Bool) → r.head_turns ≡ b → c.head ≡ position r.head b
    at_turn b f = subst (λ (x : Bool). c.head ≡ position r.head x) f d.head

    -- by whom the head's page is turned
    by_whom : (qs : List (Place (UnboundedCall T) T)) (ts : List (ActiveQueueCall T)) → AreAt IsAtBlocks ts qs → SomePlace (HeadPage r) qs
        → ((r.first ≡ r.head / 31 + 1) × SomeSeat ts (Turns true))
        ⊎ ((r.first ≡ r.head / 31) × (1 ≤ r.first) × ((r.block (r.first - 1)).retired ≡ false) × SomeSeat ts (Turns false))
    by_whom [] [] h g = absurd g
    by_whom (p ∷ qs) (t ∷ ts) h (inl (inl g)) = inl (g.0, inl (turns_is true t.call.state p.action h.0.0 g.1))
    by_whom (p ∷ qs) (t ∷ ts) h (inl (inr g)) = inr (g.0, g.1, g.2, inl (turns_is false t.call.state p.action h.0.0 g.3))
    by_whom (p ∷ qs) (t ∷ ts) h (inr g) =
        ⊎_elim (λ x. inl (x.0, inr x.1)) (λ x. inr (x.0, x.1, x.2, inr x.3)) (by_whom qs ts h.1 g)
    by_whom x y h g = absurd h

    head_at : HeadAt
    head_at = by_bool r.head_turns
        (λ f. inl (let at = at_turn false f in omega (arith, at), ⊎_elim (λ g. inr g) (λ g. inl g) (s.first f)))
        (λ f. let t = s.turned f in let a = t.0 in let b = t.3 in let at = at_turn true f in
        let turning : c.head % 32 ≡ 31 = omega (arith, at, a, b) in
        ⊎_elim (λ g. absurd g)
        (λ g. ⊎_elim (λ x. inr (inl (turning, x))) (λ x. inr (inr (turning, x.0, x.1, x.2, x.3))) (by_whom ps ss are g))
        (owing (HeadPage r) turn_head (ap one_if f) (head_page r q.items s)))

    -- the blocks from the head's on are in use
    used_from : (k : ℕ) → r.first - 1 ≤ k → (r.block k).retired ≡ false
    used_from k low = by_bool (r.block k).retired (λ f. f)
        (λ f. absurd (
        let z = s.retired k f in let t = s.reads k in let u = taken_all r.head k in
        let full : k < r.head / 31 = taken_full r.head k (omega (arith, z, t, u)) in
        ⊎_elim (λ g. ⊎_elim (λ h. let y = h.1 in omega (arith, y, full)) (λ h. omega (arith, h, low, full)) g.1)
        (λ g. ⊎_elim (λ h. let y = h.1.0 in omega (arith, y, low, full))
        (λ h. let y = h.1 in let same_one : k ≡ r.first - 1 = omega (arith, y, low, full) in
        false≢true (sym h.3 ∙ ap (λ (j : ℕ). (r.block j).retired) (sym same_one) ∙ f)) g)
        head_at))

    chain_is : (k b : ℕ) → slice_get chain k ≡ Some b → (k < r.last) × (b ≡ r.num k)
    chain_is k b e =
        let l = of.0 in
        let below = get_inside chain k b e in
        let short : k < r.last = omega (arith, l, below) in
        (short, some_is (sym e ∙ of.1 k short))

    first_named_by : (b : ℕ) → slice_get chain (r.first - 1) ≡ Some b
        → (c.head_block ≡ b + 1) ⊎ ((c.head_block ≡ 0) × SomeSeat ss (NamesTheHead b))
    first_named_by b e =
        let is = chain_is (r.first - 1) b e in
        ⊎_elim
        (λ g. inr (g.1, named_yet (r.first) b g.0 is.0 is.1))
        (λ g. inl (g.1 ∙ ap (λ (x : ℕ). x + 1) (sym is.1))) d.head_block
      where
        named_yet : (f b : ℕ) → r.first ≡ 0 → r.first - 1 < r.last → b ≡ r.num (r.first - 1) → SomeSeat ss (NamesTheHead b)
        named_yet f b z short at =
            let zero_is : r.first - 1 ≡ 0 = omega (arith, z) in
            let b_is : r.num 0 ≡ b = ap r.num (sym zero_is) ∙ sym at in
            ⊎_elim (λ g. absurd g)
            (λ g. to_seat (λ a. first_named a ≡ Some b) (NamesTheHead b) (names_is b) ss ps are (subst (λ (x : ℕ). SomePlace
            (λ a. first_named a ≡ Some x) ps) b_is g))
            (owing (λ a. first_named a ≡ Some (r.num 0)) start (owed_start r.first r.last z (omega (arith, short))) (starts r))

    linked_by : (k b e : ℕ) → r.first - 1 ≤ k → slice_get chain k ≡ Some b → slice_get chain (k + 1) ≡ Some e
        → ((block_at c b).next ≡ e + 1) ⊎ SomeSeat ss (Links b e)
    linked_by k b e low x y =
        let is = chain_is k b x in
        let next = chain_is (k + 1) e y in
        let block = d.used k is.0 (used_from k low) in
        subst (λ (p : ℕ × ℕ). ((block_at c p.0).next ≡ p.1 + 1) ⊎ SomeSeat ss (Links p.0 p.1)) (λ i. (sym is.1 i, sym next.1 i))
        (by_bool (r.block k).linked
        (λ f. inr (unlinked f next.0))
        (λ f. inl (block.next ∙ ap (λ (l : Bool). if l then r.num (k + 1) + 1 else 0) f)))
      where
        unlinked : (r.block k).linked ≡ false → k + 1 < r.last → SomeSeat ss (Links (r.num k) (r.num (k + 1)))
        unlinked f short =
            let t = tail_at in
            ⊎_elim (λ g. absurd g)
            (λ g. to_seat
            (λ a. pair_linked a ≡ Some (r.num k, r.num (k + 1))) (Links (r.num k) (r.num (k + 1)))
            (links_is (r.num k) (r.num (k + 1))) ss ps are g)
            (owing (λ a. pair_linked a ≡ Some (r.num k, r.num (k + 1))) (link k) (owed_link k (r.tail / 31) (r.block k).linked
            (omega (arith, t, short)) f) (links r k short))

    last_is : ((chain ≡ []) × (c.tail_block ≡ 0)) ⊎ ((b : ℕ) × (slice_get chain (length chain - 1) ≡ Some b) × (c.tail_block ≡ b + 1))
    last_is = ⊎_elim
        (λ g. let l = of.0 in let z = g.0 in inl (none_of chain (omega (arith, l, z)), g.1))
        (λ g. let l = of.0 in let at : length chain - 1 ≡ r.last - 1 = omega (arith, l) in
        inr (r.num (r.last - 1), ap (slice_get chain) at ∙ of.1 (r.last - 1) (let z = g.0 in omega (arith, z)), g.1)) d.tail_block

    are_blocks : AreBlocks (SomeSeat ss) c chain
    are_blocks = record {
      first = r.first - 1;
      place = (
          let h = head_number c q ps r d means in
          ⊎_elim (λ g. inl (g.0, ⊎_elim (λ x. let y = x.0 in let z = x.1 in omega (arith, h, y, z)) (λ x. omega (arith, h, x)) g.1))
          (λ g. inr (⊎_elim (λ x. let y = x.1.0 in inl (x.0, omega (arith, h, y), x.1.1))
          (λ x. let y = x.1 in let z = x.2 in inr (x.0, omega (arith, h, y, z), x.4)) g)) head_at);
      named = first_named_by;
      linked = linked_by;
      last = last_is;
    }

  -- ---- any form

  are_by : (form : QueueForm) (chain : List ℕ) (c : Contents T) (q : Queue T) (seats : List (ActiveQueueCall T)) → FitsForm form chain c q seats
      → MayHave form chain → ChainBy (SomeSeat seats) form c chain
  are_by (Bounded capacity) chain c q seats fits bare = bare
  are_by Unbounded chain c q seats (places, stand, (r, d, means, fit, of)) bare = are_blocks c q seats places r d means stand chain of

  -- of cells and calls that mean a queue
  pub are_chained : (chain : List ℕ) (c : Contents T) (q : Queue T) (seats : List (ActiveQueueCall T)) → FitsAt chain c q seats
      → MayHave c.form chain → ChainBy (SomeSeat seats) c.form c chain
  unfolding FitsAt
  are_chained chain c q seats fits bare = are_by c.form chain c q seats fits bare

  -- so it is by other calls, of which one is so where one of these is
  pub by_others : (some other : (CallState T → Type 0) → Type 0) (form : QueueForm) (c : Contents T) (chain : List ℕ)
      → ((P : CallState T → Type 0) → some P → other P) → ChainBy some form c chain → ChainBy other form c chain
  by_others some other (Bounded capacity) c chain goes h = h
  by_others some other Unbounded c chain goes h = record {
    first = h.first;
    place = ⊎_elim (λ x. inl x) (λ y. inr (⊎_elim (λ x. inl (x.0, x.1, goes (Turns true) x.2))
        (λ x. inr (x.0, x.1, goes (Turns false) x.2)) y)) h.place;
    named = λ b e. ⊎_elim (λ g. inl g) (λ g. inr (g.0, goes (NamesTheHead b) g.1)) (h.named b e);
    linked = λ k b d low e f. ⊎_elim (λ g. inl g) (λ g. inr (goes (Links b d) g)) (h.linked k b d low e f);
    last = h.last;
  }
