-- What a write of one node leaves of the links and of what the nodes say.
use Rattle.std.proofs.Common.{◌≡◌, ◌≢◌, inl, inr, ℕ, Option, Some, None, is_some, IsSome, IfSome, refl, sym, ap, subst, ◌∙◌, ◌+◌, arith, Bool}
use Rattle.std.proofs.lemmas.Bool.{cases_eq}
use Rattle.slab.specs.Slab.{Slab, get, ContainsKey, with_value, Updates}
use Rattle.slab.proofs.SlabLemmas.{Updates-with_value}
use Rattle.event_listener.specs.declared.node.Ends.{Ends}
use Rattle.event_listener.specs.declared.node.Node.{Node}
use Rattle.event_listener.specs.declared.node.Nodes.{Nodes}
use Rattle.event_listener.specs.Nodes.{Stays}
use Rattle.event_listener.specs.Chain.{Link, after_of, before_of, node_after, node_before, Unlinks, Links_last}
use Rattle.event_listener.proofs.ChainLemmas.{Moves}

-- the neighbours of a node lead to each other, where it was taken out (1), then forward (2) and then backward (3)
pub Unlinks-by : (A B A1 B1 A2 B2 A3 B3 : Link) (k : ℕ) (b a : Option ℕ) → B (Some k) ≡ b → A (Some k) ≡ a → ((x : Option ℕ) → x ≢ Some k → A1 x ≡ A x) → ((x : Option ℕ) → x ≢ Some k → B1 x ≡ B x) → A2 b ≡ a → ((x : Option ℕ) → x ≢ b → A2 x ≡ A1 x) → ((x : Option ℕ) → B2 x ≡ B1 x) → ((x : Option ℕ) → A3 x ≡ A2 x) → B3 a ≡ b → ((x : Option ℕ) → x ≢ a → B3 x ≡ B2 x) → Unlinks A B A3 B3 k
Unlinks-by A B A1 B1 A2 B2 A3 B3 k b a at_b at_a oa ob f fo bk same g go =
    record {
      forward = ap A3 at_b ∙ same b ∙ f ∙ sym at_a;
      forward_rest = λ x ne nk. same x ∙ fo x (λ q. ne (q ∙ sym at_b)) ∙ oa x nk;
      backward = ap B3 at_a ∙ g ∙ sym at_b;
      backward_rest = λ x ne nk. go x (λ q. ne (q ∙ sym at_a)) ∙ bk x ∙ ob x nk;
    }

module _ {T W : Type 0} where
  -- what a function of nodes gives at each key, where a write keeps it
  pub kept_by_write : {X : Type 0} (f : Option (Node T W) → X) (change : Node T W → Node T W) → ((node : Node T W) → f (Some (change node)) ≡ f (Some node)) → (slab slab' : Slab (Node T W)) (k : ℕ) → ContainsKey slab k → IfSome (get slab k) (λ node. slab' ≡ with_value slab k (change node)) → (x : ℕ) → f (get slab' x) ≡ f (get slab x)
  kept_by_write {X} f change keeps slab slab' k present written x =
      let both = at (get slab k) refl present written in
      elim (cases_eq x k) [
        | inl e ↦ subst (λ v. f (get slab' v) ≡ f (get slab v)) (sym e) both.0
        | inr ne ↦ ap f (both.1 x ne)
      ]
    where
      at : (o : Option (Node T W)) → get slab k ≡ o → IsSome o → IfSome o (λ node. slab' ≡ with_value slab k (change node)) → (f (get slab' k) ≡ f (get slab k)) × ((y : ℕ) → y ≢ k → get slab' y ≡ get slab y)
      at None e p w = absurd (cc)
      at (Some node) e p w =
          let u : Updates slab (with_value slab k (change node)) k (Some (change node)) = Updates-with_value slab k (change node) present in
          (ap f (ap (λ (s : Slab (Node T W)). get s k) w ∙ u.changed) ∙ keeps node ∙ ap f (sym e), λ y ne. ap (λ (s : Slab (Node T W)). get s y) w ∙ u.others y ne)

  -- a node that a write changed, and the others
  pub record Changed (slab slab' : Slab (Node T W)) (k : ℕ) (change : Node T W → Node T W) : Type 0 where
    pub node : Node T W
    pub was : get slab k ≡ Some node
    pub now : get slab' k ≡ Some (change node)
    pub others : (x : ℕ) → x ≢ k → get slab' x ≡ get slab x

  pub changes : (change : Node T W → Node T W) (slab slab' : Slab (Node T W)) (k : ℕ) → ContainsKey slab k → IfSome (get slab k) (λ node. slab' ≡ with_value slab k (change node)) → Changed slab slab' k change
  changes change slab slab' k present written = by (get slab k) refl present written
    where
      by : (o : Option (Node T W)) → get slab k ≡ o → IsSome o → IfSome o (λ node. slab' ≡ with_value slab k (change node)) → Changed slab slab' k change
      by None e p w = absurd (cc)
      by (Some node) e p w =
          let u : Updates slab (with_value slab k (change node)) k (Some (change node)) = Updates-with_value slab k (change node) present in
          record {
            node = node;
            was = e;
            now = ap (λ (s : Slab (Node T W)). get s k) w ∙ u.changed;
            others = λ y ne. ap (λ (s : Slab (Node T W)). get s y) w ∙ u.others y ne;
          }

  pub before-kept : (ends : Ends) (slab slab' : Slab (Node T W)) → ((x : ℕ) → node_before (get slab' x) ≡ node_before (get slab x)) → (x : Option ℕ) → before_of ends slab' x ≡ before_of ends slab x
  before-kept ends slab slab' h None = refl
  before-kept ends slab slab' h (Some x) = h x

  pub after-kept : (ends : Ends) (slab slab' : Slab (Node T W)) → ((x : ℕ) → node_after (get slab' x) ≡ node_after (get slab x)) → (x : Option ℕ) → after_of ends slab' x ≡ after_of ends slab x
  after-kept ends slab slab' h None = refl
  after-kept ends slab slab' h (Some x) = h x

  -- what stands after and before all other nodes, where one node was changed
  pub after-others : (e : Ends) (slab slab' : Slab (Node T W)) (k : ℕ) → ((x : ℕ) → x ≢ k → get slab' x ≡ get slab x) → (x : Option ℕ) → x ≢ Some k → after_of e slab' x ≡ after_of e slab x
  after-others e slab slab' k o None ne = refl
  after-others e slab slab' k o (Some x) ne = ap node_after (o x (λ q. ne (ap Some q)))

  pub before-others : (e : Ends) (slab slab' : Slab (Node T W)) (k : ℕ) → ((x : ℕ) → x ≢ k → get slab' x ≡ get slab x) → (x : Option ℕ) → x ≢ Some k → before_of e slab' x ≡ before_of e slab x
  before-others e slab slab' k o None ne = refl
  before-others e slab slab' k o (Some x) ne = ap node_before (o x (λ q. ne (ap Some q)))

  pub after-same_first : (e e' : Ends) (slab : Slab (Node T W)) (x : Option ℕ) → e'.first ≡ e.first → after_of e' slab x ≡ after_of e slab x
  after-same_first e e' slab None h = h
  after-same_first e e' slab (Some x) h = refl

  pub before-same_last : (e e' : Ends) (slab : Slab (Node T W)) (x : Option ℕ) → e'.last ≡ e.last → before_of e' slab x ≡ before_of e slab x
  before-same_last e e' slab None h = h
  before-same_last e e' slab (Some x) h = refl

  -- a node that was made behind the last one, which then leads to it
  pub Links_last-made : (e e2 e3 : Ends) (slab slab1 slab2 : Slab (Node T W)) (at : ℕ) (node : Node T W) → node.before ≡ e.last → node.after ≡ None → Updates slab slab1 at (Some node) → get slab at ≡ None → IfSome e.last (λ k. ContainsKey slab k) → e3.first ≡ e2.first → e3.last ≡ Some at → after_of e2 slab2 e.last ≡ Some at → ((x : Option ℕ) → x ≢ e.last → after_of e2 slab2 x ≡ after_of e slab1 x) → ((ends : Ends) (x : Option ℕ) → before_of ends slab2 x ≡ before_of ends slab1 x) → Links_last (after_of e slab) (before_of e slab) (after_of e3 slab2) (before_of e3 slab2) at
  Links_last-made e e2 e3 slab slab1 slab2 at node nb na u absent live f3 l3 fa fo bk =
      record {
        forward = after-same_first e2 e3 slab2 e.last f3 ∙ fa;
        forward_new = fo (Some at) (λ q. not_last e.last live (sym q)) ∙ ap node_after u.changed ∙ na;
        forward_rest = λ x ne nk. after-same_first e2 e3 slab2 x f3 ∙ fo x ne ∙ after-others e slab slab1 at u.others x nk;
        backward = l3;
        backward_new = bk e (Some at) ∙ ap node_before u.changed ∙ nb;
        backward_rest = rest;
      }
    where
      not_last : (o : Option ℕ) → IfSome o (λ k. ContainsKey slab k) → o ≢ Some at
      not_last None h eq = cc
      not_last (Some k) h eq = let f : k ≡ at = cc in let g : get slab k ≡ None = ap (get slab) f ∙ absent in let i : IsSome (get slab k) = h in absurd (cc)

      rest : (x : Option ℕ) → x ≢ None → x ≢ Some at → before_of e3 slab2 x ≡ before_of e slab x
      rest None ne nk = absurd (ne refl)
      rest (Some x) ne nk = bk e (Some x) ∙ ap node_before (u.others x (λ q. nk (ap Some q)))

  -- a write keeps each node in its place
  pub present-kept : (change : Node T W → Node T W) (slab slab' : Slab (Node T W)) (k : ℕ) → ContainsKey slab k → IfSome (get slab k) (λ node. slab' ≡ with_value slab k (change node)) → (x : ℕ) → ContainsKey slab x → ContainsKey slab' x
  present-kept change slab slab' k present written x h = kept_by_write is_some change (λ _. refl) slab slab' k present written x ∙ h

  pub Stays-joined : {counted : Bool} {a b c : Nodes T W} {m n : ℕ} → Stays counted a b m → Stays counted b c n → Stays counted a c (m + n)
  Stays-joined {counted} {a} {b} {c} {m} {n} first next =
      record {
        len = next.len ∙ first.len;
        capacity = next.capacity ∙ first.capacity;
        visits = omega (arith, first.visits, next.visits);
        uncounted = λ h. next.uncounted h ∙ first.uncounted h;
        looks = omega (arith, first.looks, next.looks);
      }

  -- A run was moved: the next node stands behind nobody (1), the last told one leads to the run (2), and the run's own ends
  -- lead to the told one and to nobody (3).
  pub Moves-by : (told told1 told2 waiting waiting1 waiting2 : Ends) (slab slab1 slab2 slab3 : Slab (Node T W)) (first last : ℕ) (next : Option ℕ) → told.last ≢ Some last → next ≢ Some first
      → before_of waiting1 slab1 next ≡ None → ((x : Option ℕ) → x ≢ next → before_of waiting1 slab1 x ≡ before_of waiting slab x) → ((e : Ends) (x : Option ℕ) → after_of e slab1 x ≡ after_of e slab x)
      → after_of told1 slab2 told.last ≡ Some first → ((x : Option ℕ) → x ≢ told.last → after_of told1 slab2 x ≡ after_of told slab1 x) → ((e : Ends) (x : Option ℕ) → before_of e slab2 x ≡ before_of e slab1 x)
      → ((e : Ends) → before_of e slab3 (Some first) ≡ told.last) → ((e : Ends) (x : Option ℕ) → x ≢ Some first → before_of e slab3 x ≡ before_of e slab2 x) → ((e : Ends) → after_of e slab3 (Some last) ≡ None) → ((e : Ends) (x : Option ℕ) → x ≢ Some last → after_of e slab3 x ≡ after_of e slab2 x)
      → told2.first ≡ told1.first → told2.last ≡ Some last → waiting2.first ≡ next → waiting2.last ≡ waiting1.last
      → Moves (after_of told slab) (before_of told slab) (after_of waiting slab) (before_of waiting slab) (after_of told2 slab3) (before_of told2 slab3) (after_of waiting2 slab3) (before_of waiting2 slab3) first last next
  Moves-by told told1 told2 waiting waiting1 waiting2 slab slab1 slab2 slab3 first last next other apart b1 bo1 a1 a2 ao2 b2 b3 bo3 a3 ao3 f l wf wl =
      record {
        same_after = λ x. refl;
        same_before = λ x. refl;
        same_after' = λ x. refl;
        same_before' = λ x. refl;
        forward = after-same_first told1 told2 slab3 told.last f ∙ ao3 told1 told.last other ∙ a2;
        forward_last = a3 told2;
        forward_rest = λ x ne nl. after-same_first told1 told2 slab3 x f ∙ ao3 told1 x nl ∙ ao2 x ne ∙ a1 told x;
        forward_next = wf;
        backward = b3 told2;
        backward_last = l;
        backward_next = before-same_last waiting1 waiting2 slab3 next wl ∙ bo3 waiting1 next apart ∙ b2 waiting1 next ∙ b1;
        backward_rest = λ x ne nf. before-same_last waiting1 waiting2 slab3 x wl ∙ bo3 waiting1 x nf ∙ b2 waiting1 x ∙ bo1 x ne;
      }
