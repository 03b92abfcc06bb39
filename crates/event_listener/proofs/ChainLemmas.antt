-- How a chain changes where its links do.
use Rattle.std.proofs.Common.{◌≡◌, ◌≢◌, ◌⊎◌, inl, inr, ℕ, List, [], ◌∷◌, ◌++◌, length, Option, Some, None, refl, sym, ap, subst, ◌∙◌, append_assoc}
use Rattle.std.proofs.lemmas.Bool.{cases_eq}
use Rattle.std.proofs.lemmas.List.{append-nil}
use Rattle.event_listener.specs.Chain.{Link, Linked, Chains, Apart, Distinct, Among, walk, first_or, last_or, Unlinks, Links_last}

-- two links agree at each of these slots
abbrev pub SameAt : Link → Link → List ℕ → Type 0
SameAt f g [] = Unit {0}
SameAt f g (k ∷ ks) = (g (Some k) ≡ f (Some k)) × SameAt f g ks

-- x is one of these
abbrev pub IsOneOf : Option ℕ → List ℕ → Type 0
IsOneOf x [] = ⊥
IsOneOf x (k ∷ ks) = (x ≡ Some k) ⊎ IsOneOf x ks

pub Apart-none : (ks : List ℕ) → Apart None ks
Apart-none [] = tt
Apart-none (k ∷ ks) = (λ e. cc, Apart-none ks)

pub SameAt-apart : (f g : Link) (u v : Option ℕ) (ks : List ℕ) → Apart u ks → Apart v ks → ((x : Option ℕ) → x ≢ u → x ≢ v → g x ≡ f x) → SameAt f g ks
SameAt-apart f g u v [] a b h = tt
SameAt-apart f g u v (k ∷ ks) a b h =
    (h (Some k) (λ e. a.0 (sym e)) (λ e. b.0 (sym e)), SameAt-apart f g u v ks a.1 b.1 h)

-- a part of a chain whose links stay is a part of the new chain
pub Linked-same : (after before after' before' : Link) (p : Option ℕ) (ks : List ℕ) (n : Option ℕ) → Linked after before p ks n → after' p ≡ after p → SameAt after after' ks → SameAt before before' ks → before' n ≡ before n → Linked after' before' p ks n
Linked-same after before after' before' p [] n l ap_ fs bs bn = (ap_ ∙ l.0, bn ∙ l.1)
Linked-same after before after' before' p (k ∷ ks) n l ap_ fs bs bn =
    (ap_ ∙ l.0, bs.0 ∙ l.1, Linked-same after before after' before' (Some k) ks n l.2 fs.0 fs.1 bs.1 bn)

-- a chain is cut before a node
pub Linked-split : (after before : Link) (p : Option ℕ) (front : List ℕ) (k : ℕ) (back : List ℕ) (n : Option ℕ) → Linked after before p (front ++ k ∷ back) n → Linked after before p front (Some k) × Linked after before (Some k) back n
Linked-split after before p [] k back n l = ((l.0, l.1), l.2)
Linked-split after before p (a ∷ front) k back n l =
    let r = Linked-split after before (Some a) front k back n l.2 in
    ((l.0, l.1, r.0), r.1)

-- two parts are joined where the first leads to what the second begins with
pub Linked-join : (after before : Link) (p : Option ℕ) (front back : List ℕ) (n : Option ℕ) → Linked after before p front (first_or back n) → Linked after before (last_or p front) back n → Linked after before p (front ++ back) n
Linked-join after before p [] back n l r = r
Linked-join after before p (a ∷ front) back n l r = (l.0, l.1, Linked-join after before (Some a) front back n l.2 r)

pub Linked-ends : (after before : Link) (p : Option ℕ) (ks : List ℕ) (n : Option ℕ) → Linked after before p ks n → (after p ≡ first_or ks n) × (before n ≡ last_or p ks)
Linked-ends after before p [] n l = (l.0, l.1)
Linked-ends after before p (k ∷ ks) n l = (l.0, (Linked-ends after before (Some k) ks n l.2).1)

pub last_or-apart : (x p : Option ℕ) (ks : List ℕ) → x ≢ p → Apart x ks → x ≢ last_or p ks
last_or-apart x p [] h a = h
last_or-apart x p (k ∷ ks) h a = last_or-apart x (Some k) ks a.0 a.1

pub first_or-apart : (x n : Option ℕ) (ks : List ℕ) → x ≢ n → Apart x ks → x ≢ first_or ks n
first_or-apart x n [] h a = h
first_or-apart x n (k ∷ ks) h a = a.0

-- a part of a chain gets another end
pub Linked-bend : (after before after' before' : Link) (p : Option ℕ) (ks : List ℕ) (n m : Option ℕ) → Linked after before p ks n → Apart p ks → Distinct ks → after' (last_or p ks) ≡ m → before' m ≡ last_or p ks → ((x : Option ℕ) → (x ≡ p) ⊎ IsOneOf x ks → x ≢ last_or p ks → after' x ≡ after x) → SameAt before before' ks → Linked after' before' p ks m
Linked-bend after before after' before' p [] n m l a d am bm fs bs = (am, bm)
Linked-bend after before after' before' p (k ∷ ks) n m l a d am bm fs bs =
    (fs p (inl refl) (last_or-apart p (Some k) ks a.0 a.1) ∙ l.0, bs.0 ∙ l.1, Linked-bend after before after' before' (Some k) ks n m l.2 d.0 d.1 am bm (λ x h ne. fs x (inr h) ne) bs.1)

-- the links lead through the chain's slots
pub walk-linked : (after before : Link) (p : Option ℕ) (ks : List ℕ) → Linked after before p ks None → walk after (length ks) p ≡ ks
walk-linked after before p [] l = refl
walk-linked after before p (k ∷ ks) l = rw l.0 (ap (λ r. k ∷ r) (walk-linked after before (Some k) ks l.2))

pub last_or-append : (p : Option ℕ) (xs ys : List ℕ) → last_or p (xs ++ ys) ≡ last_or (last_or p xs) ys
last_or-append p [] ys = refl
last_or-append p (x ∷ xs) ys = last_or-append (Some x) xs ys

-- each of the first list is none of the second
abbrev pub AllApart : List ℕ → List ℕ → Type 0
AllApart [] back = Unit {0}
AllApart (a ∷ front) back = Apart (Some a) back × AllApart front back

-- what the distinctness of a list says of a node and the parts before and after it
pub record Parted (front : List ℕ) (k : ℕ) (back : List ℕ) : Type 0 where
  pub front_distinct : Distinct front
  pub front_apart : Apart (Some k) front
  pub back_apart : Apart (Some k) back
  pub back_distinct : Distinct back
  pub cross : AllApart front back

pub Apart-append : (x : Option ℕ) (front back : List ℕ) → Apart x front → Apart x back → Apart x (front ++ back)
Apart-append x [] back a b = b
Apart-append x (k ∷ front) back a b = (a.0, Apart-append x front back a.1 b)

pub Apart-front : (x : Option ℕ) (front back : List ℕ) → Apart x (front ++ back) → Apart x front
Apart-front x [] back a = tt
Apart-front x (k ∷ front) back a = (a.0, Apart-front x front back a.1)

pub Apart-back : (x : Option ℕ) (front back : List ℕ) → Apart x (front ++ back) → Apart x back
Apart-back x [] back a = a
Apart-back x (k ∷ front) back a = Apart-back x front back a.1

pub Distinct-parted : (front : List ℕ) (k : ℕ) (back : List ℕ) → Distinct (front ++ k ∷ back) → Parted front k back
Distinct-parted [] k back d = record { front_distinct = tt; front_apart = tt; back_apart = d.0; back_distinct = d.1; cross = tt }
Distinct-parted (a ∷ front) k back d =
    let r = Distinct-parted front k back d.1 in
    let b = Apart-back (Some a) front (k ∷ back) d.0 in
    record {
      front_distinct = (Apart-front (Some a) front (k ∷ back) d.0, r.front_distinct);
      front_apart = (λ e. b.0 (sym e), r.front_apart);
      back_apart = r.back_apart;
      back_distinct = r.back_distinct;
      cross = (b.1, r.cross);
    }

-- without the node the rest is distinct
pub Distinct-joined : (front back : List ℕ) → Distinct front → Distinct back → AllApart front back → Distinct (front ++ back)
Distinct-joined [] back d e a = e
Distinct-joined (k ∷ front) back d e a = (Apart-append (Some k) front back d.0 a.0, Distinct-joined front back d.1 e a.1)

pub AllApart-one : (k : ℕ) (ks : List ℕ) → Apart (Some k) ks → AllApart ks (k ∷ [])
AllApart-one k [] a = tt
AllApart-one k (x ∷ ks) a = ((λ e. a.0 (sym e), tt), AllApart-one k ks a.1)

pub Distinct-more : (k : ℕ) (ks : List ℕ) → Apart (Some k) ks → Distinct ks → Distinct (ks ++ k ∷ [])
Distinct-more k ks a d = Distinct-joined ks (k ∷ []) d (tt, tt) (AllApart-one k ks a)

pub first_or-away : (front back : List ℕ) → AllApart front back → Apart (first_or back None) front
first_or-away front [] a = Apart-none front
first_or-away [] (b ∷ back) a = tt
first_or-away (k ∷ front) (b ∷ back) a = (λ e. a.0.0 (sym e), first_or-away front (b ∷ back) a.1)

pub last_or-away : (p : Option ℕ) (front back : List ℕ) → Apart p back → AllApart front back → Apart (last_or p front) back
last_or-away p [] back h a = h
last_or-away p (k ∷ front) back h a = last_or-away (Some k) front back a.0 a.1

OneOf-apart : (x : Option ℕ) (front : List ℕ) (k : ℕ) → Apart (Some k) front → IsOneOf x front → x ≢ Some k
OneOf-apart x [] k a h e = absurd h
OneOf-apart x (y ∷ front) k a (inl h) e = a.0 (sym e ∙ h)
OneOf-apart x (y ∷ front) k a (inr h) e = OneOf-apart x front k a.1 h e

None_or_one-apart : (x : Option ℕ) (front : List ℕ) (k : ℕ) → Apart (Some k) front → (x ≡ None) ⊎ IsOneOf x front → x ≢ Some k
None_or_one-apart x front k a (inl h) e = let q : None ≡ Some k = sym h ∙ e in cc
None_or_one-apart x front k a (inr h) e = OneOf-apart x front k a h e

-- a part of a chain begins anew at q
Linked-restart : (after before after' before' : Link) (p : Option ℕ) (k : ℕ) (q : Option ℕ) (back : List ℕ) → Linked after before p back None → after' q ≡ first_or back None → before' (first_or back None) ≡ q → SameAt after after' back → Apart (Some k) back → Distinct back → ((x : Option ℕ) → x ≢ first_or back None → x ≢ Some k → before' x ≡ before x) → Linked after' before' q back None
Linked-restart after before after' before' p k q [] l am bm fs a d bs = (am, bm)
Linked-restart after before after' before' p k q (b ∷ back) l am bm fs a d bs =
    (am, bm, Linked-same after before after' before' (Some b) back None l.2 fs.0 fs.1 (SameAt-apart before before' (Some b) (Some k) back d.0 a.1 bs) (bs None (λ e. cc) (λ e. cc)))

-- a node leaves the chain: its neighbours are linked to each other, and all else stays
pub Linked-unlink : {after before after' before' : Link} {k : ℕ} → Unlinks after before after' before' k → (front back : List ℕ) → Linked after before None (front ++ k ∷ back) None → Distinct (front ++ k ∷ back) → Linked after' before' None (front ++ back) None
Linked-unlink {after} {before} {after'} {before'} {k} u front back l d =
    let parts = Linked-split after before None front k back None l in
    let el = Linked-ends after before None front (Some k) parts.0 in
    let er = Linked-ends after before (Some k) back None parts.1 in
    let away = Distinct-parted front k back d in
    let am : after' (last_or None front) ≡ first_or back None = ap after' (sym el.1) ∙ u.forward ∙ er.0 in
    let bm : before' (first_or back None) ≡ last_or None front = ap before' (sym er.0) ∙ u.backward ∙ el.1 in
    let to : Apart (after (Some k)) front = subst (λ v. Apart v front) (sym er.0) (first_or-away front back away.cross) in
    let from : Apart (before (Some k)) back = subst (λ v. Apart v back) (sym el.1) (last_or-away None front back (Apart-none back) away.cross) in
    Linked-join after' before' None front back None
    (Linked-bend after before after' before' None front (Some k) (first_or back None) parts.0 (Apart-none front) away.front_distinct am bm
    (λ x h ne. u.forward_rest x (λ e. ne (e ∙ el.1)) (None_or_one-apart x front k away.front_apart h))
    (SameAt-apart before before' (after (Some k)) (Some k) front to away.front_apart u.backward_rest))
    (Linked-restart after before after' before' (Some k) k (last_or None front) back parts.1 am bm
    (SameAt-apart after after' (before (Some k)) (Some k) back from away.back_apart u.forward_rest) away.back_apart away.back_distinct
    (λ x ne nk. u.backward_rest x (λ e. ne (e ∙ er.0)) nk))

pub Linked-last : {after before after' before' : Link} {k : ℕ} → Links_last after before after' before' k → (ks : List ℕ) → Linked after before None ks None → Distinct ks → Apart (Some k) ks → Linked after' before' None (ks ++ k ∷ []) None
Linked-last {after} {before} {after'} {before'} {k} u ks l d a =
    let ends = Linked-ends after before None ks None l in
    let am : after' (last_or None ks) ≡ Some k = ap after' (sym ends.1) ∙ u.forward in
    let bm : before' (Some k) ≡ last_or None ks = u.backward_new ∙ ends.1 in
    Linked-join after' before' None ks (k ∷ []) None
    (Linked-bend after before after' before' None ks None (Some k) l (Apart-none ks) d am bm
    (λ x h ne. u.forward_rest x (λ e. ne (e ∙ ends.1)) (None_or_one-apart x ks k a h))
    (SameAt-apart before before' None (Some k) ks (Apart-none ks) a u.backward_rest))
    (am, bm, (u.forward_new, u.backward))

-- a chain is cut between two parts
Linked-cut : (after before : Link) (p : Option ℕ) (front back : List ℕ) (n : Option ℕ) → Linked after before p (front ++ back) n → Linked after before p front (first_or back n) × Linked after before (last_or p front) back n
Linked-cut after before p [] [] n l = (l, l)
Linked-cut after before p [] (b ∷ back) n l = ((l.0, l.1), l)
Linked-cut after before p (a ∷ front) back n l =
    let r = Linked-cut after before (Some a) front back n l.2 in
    ((l.0, l.1, r.0), r.1)

-- links that are the same at each node
pub SameAt-shift : (F F' g g' : Link) (xs : List ℕ) → ((x : ℕ) → g (Some x) ≡ F (Some x)) → ((x : ℕ) → g' (Some x) ≡ F' (Some x)) → SameAt g g' xs → SameAt F F' xs
SameAt-shift F F' g g' [] h h' a = tt
SameAt-shift F F' g g' (x ∷ xs) h h' a = (sym (h' x) ∙ a.0 ∙ h x, SameAt-shift F F' g g' xs h h' a.1)

pub Distinct-cross : (ks ws : List ℕ) → Distinct (ks ++ ws) → AllApart ks ws
Distinct-cross [] ws d = tt
Distinct-cross (k ∷ ks) ws d = (Apart-back (Some k) ks ws d.0, Distinct-cross ks ws d.1)

pub Distinct-head : (ks ws : List ℕ) → Distinct (ks ++ ws) → Distinct ks
Distinct-head [] ws d = tt
Distinct-head (k ∷ ks) ws d = (Apart-front (Some k) ks ws d.0, Distinct-head ks ws d.1)

pub Distinct-tail : (ks ws : List ℕ) → Distinct (ks ++ ws) → Distinct ws
Distinct-tail [] ws d = d
Distinct-tail (k ∷ ks) ws d = Distinct-tail ks ws d.1

Apart-each : (w : ℕ) (ks ws : List ℕ) → AllApart ks (w ∷ ws) → Apart (Some w) ks × AllApart ks ws
Apart-each w [] ws a = (tt, tt)
Apart-each w (k ∷ ks) ws a = let r = Apart-each w ks ws a.1 in ((λ e. a.0.0 (sym e), r.0), (a.0.1, r.1))

pub AllApart-turn : (ks ws : List ℕ) → AllApart ks ws → AllApart ws ks
AllApart-turn ks [] a = tt
AllApart-turn ks (w ∷ ws) a = let r = Apart-each w ks ws a in (r.0, AllApart-turn ks ws r.1)

AllApart-parts : (front back ws : List ℕ) → AllApart (front ++ back) ws → AllApart front ws × AllApart back ws
AllApart-parts [] back ws a = (tt, a)
AllApart-parts (x ∷ front) back ws a = let r = AllApart-parts front back ws a.1 in ((a.0, r.0), r.1)

pub first_or-far : (back ws : List ℕ) → AllApart back ws → Apart (first_or back None) ws
first_or-far [] ws a = Apart-none ws
first_or-far (b ∷ back) ws a = a.0

OneOf-away : (x y : Option ℕ) (ks : List ℕ) → Apart y ks → IsOneOf x ks → x ≢ y
OneOf-away x y [] a h e = absurd h
OneOf-away x y (k ∷ ks) a (inl h) e = a.0 (sym e ∙ h)
OneOf-away x y (k ∷ ks) a (inr h) e = OneOf-away x y ks a.1 h e

OneOf-same : (f g : Link) → ((x : ℕ) → f (Some x) ≡ g (Some x)) → (x : Option ℕ) (ks : List ℕ) → IsOneOf x ks → f x ≡ g x
OneOf-same f g h x [] i = absurd i
OneOf-same f g h x (k ∷ ks) (inl e) = rw e (h k)
OneOf-same f g h x (k ∷ ks) (inr i) = OneOf-same f g h x ks i

-- What became of the links where the first nodes of the waiting chain, from the first to the last of them, moved to the end
-- of the told one, and the next node stood behind them. At a node the links of both chains are the same.
pub record Moves (told_after told_before waiting_after waiting_before told_after' told_before' waiting_after' waiting_before' : Link) (first last : ℕ) (next : Option ℕ) : Type 0 where
  pub same_after : (x : ℕ) → waiting_after (Some x) ≡ told_after (Some x)
  pub same_before : (x : ℕ) → waiting_before (Some x) ≡ told_before (Some x)
  pub same_after' : (x : ℕ) → waiting_after' (Some x) ≡ told_after' (Some x)
  pub same_before' : (x : ℕ) → waiting_before' (Some x) ≡ told_before' (Some x)
  pub forward : told_after' (told_before None) ≡ Some first
  pub forward_last : told_after' (Some last) ≡ None
  pub forward_rest : (x : Option ℕ) → x ≢ told_before None → x ≢ Some last → told_after' x ≡ told_after x
  pub forward_next : waiting_after' None ≡ next
  pub backward : told_before' (Some first) ≡ told_before None
  pub backward_last : told_before' None ≡ Some last
  pub backward_next : waiting_before' next ≡ None
  pub backward_rest : (x : Option ℕ) → x ≢ next → x ≢ Some first → waiting_before' x ≡ waiting_before x

-- where a node and those behind it stand apart from the told ones, and all from each other
record Run (ks : List ℕ) (first : ℕ) (rest back : List ℕ) : Type 0 where
  ks_distinct : Distinct ks
  first_ks : Apart (Some first) ks
  first_rest : Apart (Some first) rest
  first_back : Apart (Some first) back
  rest_ks : AllApart rest ks
  rest_back : AllApart rest back
  rest_distinct : Distinct rest
  back_ks : AllApart back ks
  back_distinct : Distinct back

Run-of : (ks : List ℕ) (first : ℕ) (rest back : List ℕ) → Distinct (ks ++ (first ∷ rest ++ back)) → Run ks first rest back
Run-of ks first rest back d =
    let p = Distinct-parted ks first (rest ++ back) d in
    let t = AllApart-parts rest back ks (AllApart-turn ks (rest ++ back) p.cross) in
    record {
      ks_distinct = p.front_distinct;
      first_ks = p.front_apart;
      first_rest = Apart-front (Some first) rest back p.back_apart;
      first_back = Apart-back (Some first) rest back p.back_apart;
      rest_ks = t.0;
      rest_back = Distinct-cross rest back p.back_distinct;
      rest_distinct = Distinct-head rest back p.back_distinct;
      back_ks = t.1;
      back_distinct = Distinct-tail rest back p.back_distinct;
    }

-- the run moves: both are chains again
pub Chains-moved : {TA TB WA WB TA' TB' WA' WB' : Link} {first last : ℕ} {next : Option ℕ} → Moves TA TB WA WB TA' TB' WA' WB' first last next → (ks rest back : List ℕ) → Some last ≡ last_or (Some first) rest → next ≡ first_or back None → Chains TA TB WA WB ks (first ∷ rest ++ back) → Chains TA' TB' WA' WB' (ks ++ first ∷ rest) back
Chains-moved {TA} {TB} {WA} {WB} {TA'} {TB'} {WA'} {WB'} {first} {last} {next} m ks rest back le ne c =
    let r = Run-of ks first rest back c.distinct in
    let el = (Linked-ends TA TB None ks None c.told).1 in
    let cut = Linked-cut WA WB (Some first) rest back None c.waiting.2 in
    let am : TA' (last_or None ks) ≡ Some first = ap TA' (sym el) ∙ m.forward in
    let bm : TB' (Some first) ≡ last_or None ks = m.backward ∙ el in
    let last_ks : Apart (Some last) ks = subst (λ v. Apart v ks) (sym le) (last_or-away (Some first) rest ks r.first_ks r.rest_ks) in
    let last_back : Apart (Some last) back = subst (λ v. Apart v back) (sym le) (last_or-away (Some first) rest back r.first_back r.rest_back) in
    let next_ks : Apart next ks = subst (λ v. Apart v ks) (sym ne) (first_or-far back ks r.back_ks) in
    let next_rest : Apart next rest = subst (λ v. Apart v rest) (sym ne) (first_or-away rest back r.rest_back) in
    let end_run : Apart (last_or None ks) (first ∷ rest) = last_or-away None ks (first ∷ rest) (Apart-none (first ∷ rest)) (AllApart-turn (first ∷ rest) ks (r.first_ks, r.rest_ks)) in
    let end_back : Apart (TB None) back = subst (λ v. Apart v back) (sym el) (last_or-away None ks back (Apart-none back) (AllApart-turn back ks r.back_ks)) in
    let front : Linked TA' TB' None ks (Some first) =
    Linked-bend TA TB TA' TB' None ks None (Some first) c.told (Apart-none ks) r.ks_distinct am bm
    (λ x h n. m.forward_rest x (λ e. n (e ∙ el)) (None_or_one-apart x ks last last_ks h))
    (SameAt-shift TB TB' WB WB' ks m.same_before m.same_before' (SameAt-apart WB WB' next (Some first) ks next_ks r.first_ks m.backward_rest)) in
    let run : Linked TA' TB' (Some first) rest None =
    Linked-bend WA WB TA' TB' (Some first) rest (first_or back None) None cut.0 r.first_rest r.rest_distinct (ap TA' (sym le) ∙ m.forward_last) (m.backward_last ∙ le)
    (λ x h n. m.forward_rest x (λ e. OneOf-away x (last_or None ks) (first ∷ rest) end_run h (e ∙ el)) (λ e. n (e ∙ le)) ∙ sym (OneOf-same WA TA m.same_after x (first ∷ rest) h))
    (SameAt-shift WB TB' WB WB' rest (λ x. refl) m.same_before' (SameAt-apart WB WB' next (Some first) rest next_rest r.first_rest m.backward_rest)) in
    record {
      told = Linked-join TA' TB' None ks (first ∷ rest) None front (am, bm, run);
      waiting = Linked-restart WA WB WA' WB' (last_or (Some first) rest) first None back cut.1 (m.forward_next ∙ ne) (ap WB' (sym ne) ∙ m.backward_next)
          (SameAt-shift WA WA' TA TA' back (λ x. sym (m.same_after x)) (λ x. sym (m.same_after' x)) (SameAt-apart TA TA' (TB None) (Some last) back end_back last_back m.forward_rest))
          r.first_back r.back_distinct (λ x q k. m.backward_rest x (λ e. q (e ∙ ne)) k);
      distinct = subst Distinct (sym (append_assoc ks (first ∷ rest) back)) c.distinct;
    }

last_or-some : (k : ℕ) (ks : List ℕ) → None ≢ last_or (Some k) ks
last_or-some k [] e = cc
last_or-some k (x ∷ ks) e = last_or-some x ks e

-- where nobody was told, nothing moves
pub Chains-none : {TA TB WA WB : Link} (ks front back : List ℕ) → None ≡ last_or None front → Chains TA TB WA WB ks (front ++ back) → Chains TA TB WA WB (ks ++ front) back
Chains-none {TA} {TB} {WA} {WB} ks [] back e c = subst (λ r. Chains TA TB WA WB r back) (sym (append-nil ks)) c
Chains-none ks (k ∷ front) back e c = absurd (last_or-some k front e)

pub Chains-nobody : {TA TB WA WB : Link} (ks front back : List ℕ) → WA None ≡ None → Chains TA TB WA WB ks (front ++ back) → Chains TA TB WA WB (ks ++ front) back
Chains-nobody ks [] back e c = Chains-none ks [] back refl c
Chains-nobody ks (k ∷ front) back e c = let f : None ≡ Some k = sym e ∙ c.waiting.0 in absurd (cc)

-- where somebody was told, the run moves
pub Chains-run : {TA TB WA WB TA' TB' WA' WB' : Link} {first last : ℕ} {next : Option ℕ} (ks front back : List ℕ) → WA None ≡ Some first → Some last ≡ last_or None front → next ≡ first_or back None → Chains TA TB WA WB ks (front ++ back) → (TB None ≢ Some last → next ≢ Some first → Moves TA TB WA WB TA' TB' WA' WB' first last next) → Chains TA' TB' WA' WB' (ks ++ front) back
Chains-run ks [] back fe le ne c m = absurd (cc)
Chains-run {TA} {TB} {WA} {WB} {TA'} {TB'} {WA'} {WB'} {first} {last} {next} ks (k ∷ rest) back fe le ne c m =
    let q : ◌≡◌ {A = Option ℕ} (Some first) (Some k) = sym fe ∙ c.waiting.0 in
    let e : first ≡ k = cc in
    let here : Chains TA TB WA WB ks (first ∷ rest ++ back) = subst (λ v. Chains TA TB WA WB ks (v ∷ rest ++ back)) (sym e) c in
    let end : Some last ≡ last_or (Some first) rest = le ∙ ap (λ v. last_or (Some v) rest) (sym e) in
    let r = Run-of ks first rest back here.distinct in
    let last_ks : Apart (Some last) ks = subst (λ v. Apart v ks) (sym end) (last_or-away (Some first) rest ks r.first_ks r.rest_ks) in
    let other : TB None ≢ Some last = λ z. last_or-apart (Some last) None ks (λ y. cc) last_ks (sym z ∙ (Linked-ends TA TB None ks None c.told).1) in
    let apart : next ≢ Some first = λ z. first_or-apart (Some first) None back (λ y. cc) r.first_back (sym z ∙ ne) in
    subst (λ v. Chains TA' TB' WA' WB' (ks ++ v ∷ rest) back) e (Chains-moved (m other apart) ks rest back end ne here)

-- Among

pub Among-more : (x k : ℕ) (ks : List ℕ) → Among x ks → Among x (ks ++ k ∷ [])
Among-more x k ks m = (m.0, m.1 ++ k ∷ [], ap (λ r. r ++ k ∷ []) m.2 ∙ append_assoc m.0 (x ∷ m.1) (k ∷ []))

pub Among-last : (k : ℕ) (ks : List ℕ) → Among k (ks ++ k ∷ [])
Among-last k ks = (ks, [], refl)

pub Among-first : (k : ℕ) (ks : List ℕ) → Among k (k ∷ ks)
Among-first k ks = ([], ks, refl)

pub Among-behind : (x k : ℕ) (ks : List ℕ) → Among x ks → Among x (k ∷ ks)
Among-behind x k ks m = (k ∷ m.0, m.1, ap (λ r. k ∷ r) m.2)

Among-tail : (x k : ℕ) (ks : List ℕ) (front back : List ℕ) → k ∷ ks ≡ front ++ x ∷ back → x ≢ k → Among x ks
Among-tail x k ks [] back e ne = absurd (ne (cc))
Among-tail x k ks (y ∷ front) back e ne = (front, back, cc)

-- another than the one that left is still there
pub Among-left : (x k : ℕ) (front back : List ℕ) → Among x (front ++ k ∷ back) → x ≢ k → Among x (front ++ back)
Among-left x k [] back m ne = Among-tail x k back m.0 m.1 m.2 ne
Among-left x k (y ∷ front) back m ne =
    elim (cases_eq x y) [
      | inl e ↦ subst (λ v. Among x (v ∷ front ++ back)) e (Among-first x (front ++ back))
      | inr n ↦ Among-behind x y (front ++ back) (Among-left x k front back (Among-tail x y (front ++ k ∷ back) m.0 m.1 m.2 n) ne)
    ]
