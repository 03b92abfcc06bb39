-- The blocks that an unbounded queue has used, in order: the word for the tail's block names each of them as it comes.
use Rattle.std.proofs.Common.{◌≡◌, ℕ, ◌+◌, ◌-◌, ◌/◌, ◌<◌, ◌≤◌, ◌⊎◌, ⊎_elim, ◌==◌, List, [], ◌∷◌, ◌++◌, Option, Some, slice_get, refl, sym, ap, ◌∙◌, subst, inl, inr, arith, length-append}
use Rattle.std.proofs.lemmas.Bool.{cases_lt, false≢true}
use Rattle.concurrent_queue.specs.Contents.{Contents}
use Rattle.concurrent_queue.specs.Queue.{Phase}
use Rattle.concurrent_queue.specs.Step.{chain_after}
use Rattle.concurrent_queue.specs.machine.BlocksState.{Blocks, SoundBlocks, held, used, chained}
use Rattle.concurrent_queue.specs.machine.BlocksCalls.{Act, KnowsBlocks}
use Rattle.concurrent_queue.specs.machine.BlocksMoves.{Moves, push_opens, push_stays, push_shut, push_shut_held, push_returns, look_none, look_none_held, look_more, look_ready, makes, makes_more, refused, refused_more, first_wins, first_loses, starts, starts_more, swap_wins, swap_wins_edge, swap_loses, turns, adds, links, puts, stores, stores_held, gives, pop_loads, pop_stays, pop_looks_none, pop_looks, pop_empty, pop_shut, pop_back, pop_goes, pop_wins, pop_wins_edge, pop_loses, next_waits, next_found, blocks, heads, wait_waits, wait_found, takes, counts, counts_last, retires, closes, closed_before, tells_closed, empty_loads, empty_tells, empty_denies, tells_full, len_loads, len_looks, len_tells, len_back, tells_capacity, seeking, bringing, popping, asking}
use Rattle.concurrent_queue.specs.machine.BlocksDenotes.{Denotes, Shows}
use Rattle.concurrent_queue.specs.machine.BlocksForm.{IsChain}
use Rattle.concurrent_queue.specs.declared.call.QueueMark.{QueueMark}
use Rattle.concurrent_queue.specs.declared.unbounded.ending.Ending.{Ending}
use Rattle.concurrent_queue.proofs.BlocksBasics.{by_bool, get_before, get_end}
use Rattle.concurrent_queue.proofs.BlocksSteps.{pick_here, pick_other}
use Rattle.concurrent_queue.proofs.BlocksYields.{choose, is_eq, not_eq}

module _ {T : Type 0} (r : Blocks T) where
  -- the chain stays, or a block comes to its end that wasn't the last one before
  abbrev pub Grows : Blocks T → Type 0
  Grows r' = ((r'.last ≡ r.last) × ((k : ℕ) → r'.num k ≡ r.num k)) ⊎ ((h : ℕ) × (r' ≡ chained r h) × (1 ≤ r.last → h ≡ r.num (r.last - 1) → ⊥))

  -- a step that leaves the chain alone
  still : {r' z : Blocks T} → r' ≡ z → z.last ≡ r.last → ((k : ℕ) → z.num k ≡ r.num k) → Grows r'
  still e l n = inl (ap (λ (x : Blocks T). x.last) e ∙ l, λ k. ap (λ (x : Blocks T). x.num k) e ∙ n k)

  held_used : (k : ℕ) → held ≡ used k → ⊥
  held_used k e = absurd cc

  module _ (items : List T) (u : Phase T) (s : SoundBlocks r items) where
    pub grows : {a : Act T} {r' : Blocks T} {a' : Act T} {k : QueueMark} {x : Option (Ending T)} → Moves r a r' a' k x → KnowsBlocks r a u → Grows r'
    grows (seeking (first_wins {h = h} e z)) f = inr (h, e, λ some same. absurd (omega (arith, z)))
    grows (bringing (turns {n = n} {h = h} e)) f =
        inr (
          h,
          e,
          λ some same.
              (let at : r.last - 1 ≡ n / 31 = omega (arith, f.5) in
              by_bool (r.block (n / 31)).retired
              (λ alive. held_used (n / 31) (sym f.1 ∙ ap r.spot (same ∙ ap r.num at) ∙ s.live (n / 31) (omega (arith, f.5)) alive))
              (λ gone. absurd (false≢true (sym f.0.5 ∙ (s.done n (s.retired (n / 31) gone)).0)))),
        )
    grows (seeking (push_opens e c t o)) f = still e refl (λ j. refl)
    grows (seeking (push_stays e z)) f = still e refl (λ j. refl)
    grows (seeking (push_shut e c)) f = still e refl (λ j. refl)
    grows (seeking (push_shut_held e c)) f = still e refl (λ j. refl)
    grows (seeking (push_returns e)) f = still e refl (λ j. refl)
    grows (seeking (look_none e z)) f = still e refl (λ j. refl)
    grows (seeking (look_none_held e z)) f = still e refl (λ j. refl)
    grows (seeking (look_more e l q)) f = still e refl (λ j. refl)
    grows (seeking (look_ready e l q)) f = still e refl (λ j. refl)
    grows (seeking (makes e free)) f = still e refl (λ j. refl)
    grows (seeking (makes_more e free)) f = still e refl (λ j. refl)
    grows (seeking (refused e)) f = still e refl (λ j. refl)
    grows (seeking (refused_more e)) f = still e refl (λ j. refl)
    grows (seeking (first_loses e z)) f = still e refl (λ j. refl)
    grows (seeking (starts e)) f = still e refl (λ j. refl)
    grows (seeking (starts_more e)) f = still e refl (λ j. refl)
    grows (seeking (swap_wins e t o c ne)) f = still e refl (λ j. refl)
    grows (seeking (swap_wins_edge e t o c ed)) f = still e refl (λ j. refl)
    grows (seeking (swap_loses e z)) f = still e refl (λ j. refl)
    grows (bringing (adds e)) f = still e refl (λ j. refl)
    grows (bringing (links e)) f = still e refl (λ j. refl)
    grows (bringing (puts e)) f = still e refl (λ j. refl)
    grows (bringing (stores e)) f = still e refl (λ j. refl)
    grows (bringing (stores_held e)) f = still e refl (λ j. refl)
    grows (bringing (gives e)) f = still e refl (λ j. refl)
    grows (popping (pop_loads e t o)) f = still e refl (λ j. refl)
    grows (popping (pop_stays e z)) f = still e refl (λ j. refl)
    grows (popping (pop_looks_none e z)) f = still e refl (λ j. refl)
    grows (popping (pop_looks e l q)) f = still e refl (λ j. refl)
    grows (popping (pop_empty e t c)) f = still e refl (λ j. refl)
    grows (popping (pop_shut e t c)) f = still e refl (λ j. refl)
    grows (popping (pop_back e z)) f = still e refl (λ j. refl)
    grows (popping (pop_goes e ne)) f = still e refl (λ j. refl)
    grows (popping (pop_wins e t o ne)) f = still e refl (λ j. refl)
    grows (popping (pop_wins_edge e t o ed)) f = still e refl (λ j. refl)
    grows (popping (pop_loses e z)) f = still e refl (λ j. refl)
    grows (popping (next_waits e z)) f = still e refl (λ j. refl)
    grows (popping (next_found e l q)) f = still e refl (λ j. refl)
    grows (popping (blocks e)) f = still e refl (λ j. refl)
    grows (popping (heads e)) f = still e refl (λ j. refl)
    grows (popping (wait_waits e z)) f = still e refl (λ j. refl)
    grows (popping (wait_found e w)) f = still e refl (λ j. refl)
    grows (popping (takes x e)) f = still e refl (λ j. refl)
    grows (popping (counts e ne)) f = still e refl (λ j. refl)
    grows (popping (counts_last e z)) f = still e refl (λ j. refl)
    grows (popping (retires e)) f = still e refl (λ j. refl)
    grows (asking (closes e c)) f = still e refl (λ j. refl)
    grows (asking (closed_before e c)) f = still e refl (λ j. refl)
    grows (asking (tells_closed e c)) f = still e refl (λ j. refl)
    grows (asking (empty_loads e h)) f = still e refl (λ j. refl)
    grows (asking (empty_tells e t)) f = still e refl (λ j. refl)
    grows (asking (empty_denies e t)) f = still e refl (λ j. refl)
    grows (asking (tells_full e)) f = still e refl (λ j. refl)
    grows (asking (len_loads e t)) f = still e refl (λ j. refl)
    grows (asking (len_looks e h)) f = still e refl (λ j. refl)
    grows (asking (len_tells e t m)) f = still e refl (λ j. refl)
    grows (asking (len_back e t)) f = still e refl (λ j. refl)
    grows (asking (tells_capacity e)) f = still e refl (λ j. refl)

module _ {T : Type 0} (chain : List ℕ) (r : Blocks T) (c d : Contents T) where
  -- the word names the same block where the chain stays
  same_word : (f : ℕ) (r' : Blocks T) → Shows r r.last c.tail_block → Shows r' f d.tail_block → f ≡ r.last → ((k : ℕ) → r'.num k ≡ r.num k) → c.tail_block ≡ d.tail_block
  same_word f r' was is l n = ⊎_elim
      (λ g. ⊎_elim (λ h. g.1 ∙ sym h.1) (λ h. absurd (omega (arith, g.0, h.0, l))) is)
      (λ g. ⊎_elim (λ h. absurd (omega (arith, g.0, h.0, l)))
      (λ h. (let at : r'.num (f - 1) ≡ r.num (r.last - 1) = n (f - 1) ∙ ap (λ (k : ℕ). r.num (k - 1)) l in omega (arith, g.1, h.1, at))) is) was

  stays_chain : (r' : Blocks T) → Denotes c r → Denotes d r' → r'.last ≡ r.last → ((k : ℕ) → r'.num k ≡ r.num k) → IsChain chain r → IsChain (chain_after chain c d) r'
  stays_chain r' was is l n of = choose (λ (xs : List ℕ). IsChain xs r') (c.tail_block == d.tail_block)
      (λ e. (of.0 ∙ sym l, λ k h. of.1 k (omega (arith, h, l)) ∙ ap Some (sym (n k))))
      (λ e. absurd (not_eq c.tail_block d.tail_block e (same_word r'.last r' was.tail_block is.tail_block l n)))

  -- it names the block that came
  new_word : (h : ℕ) → Shows (chained r h) (r.last + 1) d.tail_block → d.tail_block ≡ h + 1
  new_word h is = ⊎_elim (λ g. absurd (omega (arith, g.0)))
      (λ g. g.1 ∙ ap (λ (k : ℕ). k + 1) (pick_here (r.last + 1 - 1) r.last h (r.num (r.last + 1 - 1)) (omega arith))) is

  other_word : (h : ℕ) → Shows r r.last c.tail_block → d.tail_block ≡ h + 1 → (1 ≤ r.last → h ≡ r.num (r.last - 1) → ⊥) → c.tail_block ≡ d.tail_block → ⊥
  other_word h was is new e = ⊎_elim (λ g. absurd (omega (arith, g.1, is, e))) (λ g. new g.0 (omega (arith, g.1, is, e))) was

  longer : (h : ℕ) → IsChain chain r → IsChain (chain ++ h ∷ []) (chained r h)
  longer h of = (
    let l = length-append chain (h ∷ []) in omega (arith, of.0),
    λ k b. ⊎_elim
        (λ (g : k < r.last). get_before chain h k (omega (arith, of.0, g)) ∙ of.1 k g ∙ ap Some (sym (pick_other k r.last h (r.num k) (λ q. omega arith))))
        (λ (g : r.last ≤ k). (let at : k ≡ r.last = omega arith in
        subst (λ (j : ℕ). slice_get (chain ++ h ∷ []) j ≡ Some h) (of.0 ∙ sym at) (get_end chain h) ∙ ap Some (sym (pick_here k r.last h (r.num k) at)))) (cases_lt k r.last),
  )

  grown_chain : (h : ℕ) → Denotes c r → Denotes d (chained r h) → (1 ≤ r.last → h ≡ r.num (r.last - 1) → ⊥) → IsChain chain r → IsChain (chain_after chain c d) (chained r h)
  grown_chain h was is new of =
      let word = new_word h is.tail_block in
      choose (λ (xs : List ℕ). IsChain xs (chained r h)) (c.tail_block == d.tail_block)
      (λ e. absurd (other_word h was.tail_block word new (is_eq c.tail_block d.tail_block e)))
      (λ e. (let b : h ≡ d.tail_block - 1 = omega arith in subst (λ (x : ℕ). IsChain (chain ++ x ∷ []) (chained r h)) b (longer h of)))

  -- after a step the chain is what the word says
  pub chained_on : (r' : Blocks T) → Denotes c r → Denotes d r' → Grows r r' → IsChain chain r → IsChain (chain_after chain c d) r'
  chained_on r' was is (inl g) of = stays_chain r' was is g.0 g.1 of
  chained_on r' was is (inr g) of =
      subst (λ (x : Blocks T). IsChain (chain_after chain c d) x) (sym g.1) (grown_chain g.0 was (subst (λ (x : Blocks T). Denotes d x) g.1 is) g.2 of)
