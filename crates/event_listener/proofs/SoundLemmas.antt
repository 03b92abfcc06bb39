-- How the sound chain and its two lists change.
use Rattle.std.proofs.Common.{◌≡◌, ◌≢◌, ◌⊎◌, inl, inr, ℕ, ◌+◌, ◌-◌, ◌<◌, Bool, true, false, cond, eqb, List, [], ◌∷◌, ◌++◌, length, Option, Some, None, is_some, IsSome, IfSome, refl, sym, ap, subst, ◌∙◌, arith, append_assoc, length-append, eq-eqb}
use Rattle.std.proofs.lemmas.Bool.{cases_eq, eqb-true}
use Rattle.std.proofs.lemmas.Bool.Decides.{nat_tests}
use Rattle.std.proofs.lemmas.List.{append-nil}
use Rattle.std.specs.Map.{lookup, remove_entry, set_value}
use Rattle.event_listener.specs.declared.key.Key.{Key}
use Rattle.event_listener.specs.declared.node.State.{State}
use Rattle.event_listener.specs.declared.node.State.TheVariants.{Waiting, Told}
use Rattle.event_listener.specs.Lists.{Notice, same_key, without, with_task, kind_of, listened_with, notified, told_as, waits_as}
use Rattle.event_listener.specs.Nodes.{is_told}
use Rattle.event_listener.specs.Chain.{Link, Linked, Apart, Distinct, Among, AtEach, Entry, Chains, Sound, Beside, fresh_entry, Unlinks, Links_last, walk, first_or, last_or, pieces, told_piece, waiting_piece, lists_at, IsTold, IsWaiting}
use Rattle.event_listener.proofs.ChainLemmas.{AllApart, AllApart-turn, SameAt-apart, SameAt-shift, Linked-same, Apart-none, Distinct-parted, Distinct-joined, Distinct-more, Distinct-cross, Distinct-head, Distinct-tail, Linked-ends, Linked-split, Linked-unlink, Linked-last, walk-linked, Among-more, Among-last, Among-left, last_or-apart, first_or-apart, first_or-far, Apart-append, Apart-front, Apart-back, last_or-away}
use Rattle.event_listener.proofs.EntryLemmas.{KeysAt, IsOne, same_key-self, lookup-pieces, remove-pieces, set-pieces, pieces-append, pieces-same}

-- parts of a list

pub AtEach-append : (P : ℕ → Type 0) (front back : List ℕ) → AtEach P front → AtEach P back → AtEach P (front ++ back)
AtEach-append P [] back f b = b
AtEach-append P (k ∷ front) back f b = (f.0, AtEach-append P front back f.1 b)

pub AtEach-front : (P : ℕ → Type 0) (front back : List ℕ) → AtEach P (front ++ back) → AtEach P front
AtEach-front P [] back a = tt
AtEach-front P (k ∷ front) back a = (a.0, AtEach-front P front back a.1)

pub AtEach-back : (P : ℕ → Type 0) (front back : List ℕ) → AtEach P (front ++ back) → AtEach P back
AtEach-back P [] back a = a
AtEach-back P (k ∷ front) back a = AtEach-back P front back a.1

pub AtEach-same : (P Q : ℕ → Type 0) (k : ℕ) (ks : List ℕ) → ((x : ℕ) → x ≢ k → P x → Q x) → Apart (Some k) ks → AtEach P ks → AtEach Q ks
AtEach-same P Q k [] h a p = tt
AtEach-same P Q k (x ∷ ks) h a p = (h x (λ e. a.0 (ap Some (sym e))) p.0, AtEach-same P Q k ks h a.1 p.1)

pub AtEach-among : (P : ℕ → Type 0) (k : ℕ) (front back : List ℕ) → AtEach P (front ++ k ∷ back) → P k
AtEach-among P k front back a = (AtEach-back P front (k ∷ back) a).0

pub AtEach-weaker : (P Q : ℕ → Type 0) (ks : List ℕ) → ((x : ℕ) → P x → Q x) → AtEach P ks → AtEach Q ks
AtEach-weaker P Q [] h a = tt
AtEach-weaker P Q (k ∷ ks) h a = (h k a.0, AtEach-weaker P Q ks h a.1)

pub Among-cases : (k : ℕ) (ks ws : List ℕ) → Among k (ks ++ ws) → Among k ks ⊎ Among k ws
Among-cases k [] ws m = inr m
Among-cases k (x ∷ ks) ws m =
    elim (cases_eq k x) [
      | inl e ↦ inl ([], ks, ap (λ v. v ∷ ks) (sym e))
      | inr ne ↦ elim (Among-cases k ks ws (tail m.0 m.1 m.2 ne)) [
        | inl a ↦ inl (x ∷ a.0, a.1, ap (λ r. x ∷ r) a.2)
        | inr b ↦ inr b
      ]
    ]
  where
    tail : (front back : List ℕ) → x ∷ (ks ++ ws) ≡ front ++ k ∷ back → k ≢ x → Among k (ks ++ ws)
    tail [] back e ne = absurd (ne (cc))
    tail (y ∷ front) back e ne = (front, back, cc)

pub last-live : (P : ℕ → Type 0) (p : Option ℕ) (ks : List ℕ) → IfSome p P → AtEach P ks → IfSome (last_or p ks) P
last-live P p [] h a = h
last-live P p (k ∷ ks) h a = last-live P (Some k) ks a.0 a.1

pub first-live : (P : ℕ → Type 0) (ks : List ℕ) → AtEach P ks → IfSome (first_or ks None) P
first-live P [] a = tt
first-live P (k ∷ ks) a = a.0

Linked-all : (after before after' before' : Link) → ((x : Option ℕ) → after' x ≡ after x) → ((x : Option ℕ) → before' x ≡ before x) → (p : Option ℕ) (ks : List ℕ) (n : Option ℕ) → Linked after before p ks n → Linked after' before' p ks n
Linked-all after before after' before' f b p [] n l = (f p ∙ l.0, b n ∙ l.1)
Linked-all after before after' before' f b p (k ∷ ks) n l = (f p ∙ l.0, b (Some k) ∙ l.1, Linked-all after before after' before' f b (Some k) ks n l.2)

-- a chain away from where links changed stays
Linked-away : (A B A' B' : Link) (f f' b b' : Link) (cs : List ℕ) (u v w : Option ℕ) → Linked A B None cs None → A' None ≡ A None → B' None ≡ B None → ((x : ℕ) → f (Some x) ≡ A (Some x)) → ((x : ℕ) → f' (Some x) ≡ A' (Some x)) → ((x : ℕ) → b (Some x) ≡ B (Some x)) → ((x : ℕ) → b' (Some x) ≡ B' (Some x)) → ((x : Option ℕ) → x ≢ u → x ≢ w → f' x ≡ f x) → ((x : Option ℕ) → x ≢ v → x ≢ w → b' x ≡ b x) → Apart u cs → Apart v cs → Apart w cs → Linked A' B' None cs None
Linked-away A B A' B' f f' b b' cs u v w l an bn fa fa' bb bb' fs bs au av aw =
    Linked-same A B A' B' None cs None l an (SameAt-shift A A' f f' cs fa fa' (SameAt-apart f f' u w cs au aw fs)) (SameAt-shift B B' b b' cs bb bb' (SameAt-apart b b' v w cs av aw bs)) bn

AllApart-among : (front : List ℕ) (k : ℕ) (back ws : List ℕ) → AllApart (front ++ k ∷ back) ws → AllApart front ws × Apart (Some k) ws × AllApart back ws
AllApart-among [] k back ws a = (tt, a.0, a.1)
AllApart-among (x ∷ front) k back ws a = let r = AllApart-among front k back ws a.1 in ((a.0, r.0), r.1, r.2)

pub same_key-slot : (key : Key) (serial : ℕ) → same_key key (record { slot = key.slot; serial = serial }) ≡ eqb serial key.serial
same_key-slot key serial = grind (arith, nat_tests)

module _ {T W : Type 0} where
  -- whether the entry has this serial, and then whether it is told
  abbrev pub found_entry : Option (Entry T W) → ℕ → Option Bool
  found_entry None serial = None
  found_entry (Some e) serial = cond (eqb e.serial serial) (Some (is_told e.state)) None

  pub told-keys : (E : ℕ → Option (Entry T W)) (k : ℕ) → KeysAt k (told_piece k (E k))
  told-keys E k = of (E k)
    where
      state : (s : ℕ) (t : State T W) → KeysAt k (told_piece k (Some (record { serial = s; state = t })))
      state s (Waiting task) = tt
      state s (Told additional tag) = (refl, tt)

      of : (o : Option (Entry T W)) → KeysAt k (told_piece k o)
      of None = tt
      of (Some e) = state e.serial e.state

  pub waiting-keys : (E : ℕ → Option (Entry T W)) (k : ℕ) → KeysAt k (waiting_piece k (E k))
  waiting-keys E k = of (E k)
    where
      state : (s : ℕ) (t : State T W) → KeysAt k (waiting_piece k (Some (record { serial = s; state = t })))
      state s (Waiting task) = (refl, tt)
      state s (Told additional tag) = tt

      of : (o : Option (Entry T W)) → KeysAt k (waiting_piece k o)
      of None = tt
      of (Some e) = state e.serial e.state

  empty-or-among : {X : Type 0} (f : ℕ → Option (Entry T W) → List X) (E : ℕ → Option (Entry T W)) (cs : List ℕ) (k : ℕ) → f k None ≡ [] → (IsSome (E k) → Among k cs) → (f k (E k) ≡ []) ⊎ Among k cs
  empty-or-among {X} f E cs k n h = of (E k) h
    where
      of : (o : Option (Entry T W)) → (IsSome o → Among k cs) → (f k o ≡ []) ⊎ Among k cs
      of None h = inl n
      of (Some e) h = inr (h refl)

  -- a key is told or waits as its entry says
  pub told_as-entry : (E : ℕ → Option (Entry T W)) (cs : List ℕ) → Distinct cs → ((k : ℕ) → IsSome (E k) → Among k cs) → (key : Key) → told_as (lists_at E cs) key ≡ lookup (same_key key) (told_piece key.slot (E key.slot))
  told_as-entry E cs d covered key =
      lookup-pieces key (λ k. told_piece k (E k)) (told-keys E) cs d (empty-or-among (λ k o. told_piece k o) E cs key.slot refl (covered key.slot))

  pub waits_as-entry : (E : ℕ → Option (Entry T W)) (cs : List ℕ) → Distinct cs → ((k : ℕ) → IsSome (E k) → Among k cs) → (key : Key) → waits_as (lists_at E cs) key ≡ lookup (same_key key) (waiting_piece key.slot (E key.slot))
  waits_as-entry E cs d covered key =
      lookup-pieces key (λ k. waiting_piece k (E k)) (waiting-keys E) cs d (empty-or-among (λ k o. waiting_piece k o) E cs key.slot refl (covered key.slot))

  abbrev kind_by : Option (Notice T) → Option (Option W) → Option Bool
  kind_by t w = cond (is_some t) (Some true) (cond (is_some w) (Some false) None)

  pub kind-entry : (key : Key) (o : Option (Entry T W)) → kind_by (lookup (same_key key) (told_piece key.slot o)) (lookup (same_key key) (waiting_piece key.slot o)) ≡ found_entry o key.serial
  kind-entry key None = refl
  kind-entry key (Some e) = state e.serial e.state
    where
      state : (s : ℕ) (t : State T W) → kind_by (lookup (same_key key) (told_piece key.slot (Some (record { serial = s; state = t })))) (lookup (same_key key) (waiting_piece key.slot (Some (record { serial = s; state = t })))) ≡ cond (eqb s key.serial) (Some (is_told t)) None
      state s (Waiting task) = rw (same_key-slot key s) (elim (eqb s key.serial) as (λ b. kind_by None (cond b (Some task) None) ≡ cond b (Some false) None) [ true ↦ refl | false ↦ refl ])
      state s (Told additional tag) = rw (same_key-slot key s) (elim (eqb s key.serial) as (λ b. kind_by (cond b (Some (record { additional = additional; tag = tag })) None) None ≡ cond b (Some true) None) [ true ↦ refl | false ↦ refl ])

  -- an entry that the key names

  told-one : (key : Key) (e : Entry T W) → e.serial ≡ key.serial → IsOne key (told_piece key.slot (Some e))
  told-one key e h = state e.state
    where
      state : (t : State T W) → IsOne key (told_piece key.slot (Some (record { serial = e.serial; state = t })))
      state (Waiting task) = tt
      state (Told additional tag) = rw h (same_key-self key)

  waiting-one : (key : Key) (e : Entry T W) → e.serial ≡ key.serial → IsOne key (waiting_piece key.slot (Some e))
  waiting-one key e h = state e.state
    where
      state : (t : State T W) → IsOne key (waiting_piece key.slot (Some (record { serial = e.serial; state = t })))
      state (Waiting task) = rw h (same_key-self key)
      state (Told additional tag) = tt

  -- a listener whose node leaves is in neither list
  pub lists-without : (E E' : ℕ → Option (Entry T W)) (key : Key) (e : Entry T W) (front back : List ℕ) → Distinct (front ++ key.slot ∷ back) → E key.slot ≡ Some e → e.serial ≡ key.serial → ((x : ℕ) → x ≢ key.slot → E' x ≡ E x) → lists_at E' (front ++ back) ≡ without key (lists_at E (front ++ key.slot ∷ back))
  lists-without E E' key e front back d h s o =
      let parts = Distinct-parted front key.slot back d in
      let away = Apart-append (Some key.slot) front back parts.front_apart parts.back_apart in
      let t : pieces (λ k. told_piece k (E' k)) (front ++ back) ≡ remove_entry (same_key key) (pieces (λ k. told_piece k (E k)) (front ++ key.slot ∷ back)) =
      pieces-same (λ k. told_piece k (E k)) (λ k. told_piece k (E' k)) key.slot (front ++ back) (λ x ne. ap (told_piece x) (o x ne)) away
      ∙ sym (remove-pieces key (λ k. told_piece k (E k)) (told-keys E) front back d (subst (λ v. IsOne key (told_piece key.slot v)) (sym h) (told-one key e s))) in
      let w : pieces (λ k. waiting_piece k (E' k)) (front ++ back) ≡ remove_entry (same_key key) (pieces (λ k. waiting_piece k (E k)) (front ++ key.slot ∷ back)) =
      pieces-same (λ k. waiting_piece k (E k)) (λ k. waiting_piece k (E' k)) key.slot (front ++ back) (λ x ne. ap (waiting_piece x) (o x ne)) away
      ∙ sym (remove-pieces key (λ k. waiting_piece k (E k)) (waiting-keys E) front back d (subst (λ v. IsOne key (waiting_piece key.slot v)) (sym h) (waiting-one key e s))) in
      λ i. record { told = t i; waiting = w i }

  -- a waiting listener gets a task
  pub lists-with_task : (E E' : ℕ → Option (Entry T W)) (key : Key) (e : Entry T W) (task : W) (old : Option W) (front back : List ℕ) → Distinct (front ++ key.slot ∷ back) → E key.slot ≡ Some e → e.serial ≡ key.serial → e.state ≡ Waiting old → E' key.slot ≡ Some (record { serial = e.serial; state = Waiting (Some task) }) → ((x : ℕ) → x ≢ key.slot → E' x ≡ E x) → lists_at E' (front ++ key.slot ∷ back) ≡ with_task key task (lists_at E (front ++ key.slot ∷ back))
  lists-with_task E E' key e task old front back d h s was now o =
      let parts = Distinct-parted front key.slot back d in
      let eo : E key.slot ≡ Some (record { serial = key.serial; state = Waiting old }) = h ∙ ap Some (λ i. record { serial = s i; state = was i }) in
      let en : E' key.slot ≡ Some (record { serial = key.serial; state = Waiting (Some task) }) = now ∙ ap (λ v. Some (record { serial = v; state = Waiting (Some task) })) s in
      let tf = pieces-same (λ k. told_piece k (E k)) (λ k. told_piece k (E' k)) key.slot front (λ x ne. ap (told_piece x) (o x ne)) parts.front_apart in
      let tb = pieces-same (λ k. told_piece k (E k)) (λ k. told_piece k (E' k)) key.slot back (λ x ne. ap (told_piece x) (o x ne)) parts.back_apart in
      let wf = pieces-same (λ k. waiting_piece k (E k)) (λ k. waiting_piece k (E' k)) key.slot front (λ x ne. ap (waiting_piece x) (o x ne)) parts.front_apart in
      let wb = pieces-same (λ k. waiting_piece k (E k)) (λ k. waiting_piece k (E' k)) key.slot back (λ x ne. ap (waiting_piece x) (o x ne)) parts.back_apart in
      let t : pieces (λ k. told_piece k (E' k)) (front ++ key.slot ∷ back) ≡ pieces (λ k. told_piece k (E k)) (front ++ key.slot ∷ back) =
      rw (pieces-append (λ k. told_piece k (E' k)) front (key.slot ∷ back), pieces-append (λ k. told_piece k (E k)) front (key.slot ∷ back), tf, tb, eo, en) refl in
      let w : pieces (λ k. waiting_piece k (E' k)) (front ++ key.slot ∷ back) ≡ set_value (same_key key) (pieces (λ k. waiting_piece k (E k)) (front ++ key.slot ∷ back)) (Some task) =
      rw (set-pieces key (λ k. waiting_piece k (E k)) (waiting-keys E) front back (Some task) d (subst (λ v. IsOne key (waiting_piece key.slot v)) (sym h) (waiting-one key e s)), pieces-append (λ k. waiting_piece k (E' k)) front (key.slot ∷ back), wf, wb, eo, en, same_key-self key) refl in
      λ i. record { told = t i; waiting = w i }

  told-is : (k : ℕ) (o : Option (Entry T W)) (e : Entry T W) → o ≡ Some e → IsTold o → is_told e.state ≡ true
  told-is k o e h t = of e.state (subst IsTold h t)
    where
      of : (s : State T W) → IsTold (Some (record { serial = e.serial; state = s })) → is_told s ≡ true
      of (Waiting task) t = absurd t
      of (Told additional tag) t = refl

  waiting-is : (k : ℕ) (o : Option (Entry T W)) (e : Entry T W) → o ≡ Some e → IsWaiting o → is_told e.state ≡ false
  waiting-is k o e h t = of e.state (subst IsWaiting h t)
    where
      of : (s : State T W) → IsWaiting (Some (record { serial = e.serial; state = s })) → is_told s ≡ false
      of (Waiting task) t = refl
      of (Told additional tag) t = absurd t

  told-live : (o : Option (Entry T W)) → IsTold o → IsSome o
  told-live None t = absurd t
  told-live (Some e) t = refl

  waiting-live : (o : Option (Entry T W)) → IsWaiting o → IsSome o
  waiting-live None t = absurd t
  waiting-live (Some e) t = refl

  -- an entry that is found has the serial
  pub found-some : (o : Option (Entry T W)) (serial : ℕ) → IsSome (found_entry o serial) → (e : Entry T W) × (o ≡ Some e) × (e.serial ≡ serial)
  found-some None serial h = absurd (cc)
  found-some (Some e) serial h = by (eqb e.serial serial) refl h
    where
      by : (b : Bool) → eqb e.serial serial ≡ b → IsSome (cond b (Some (is_told e.state)) None) → (f : Entry T W) × (Some e ≡ Some f) × (f.serial ≡ serial)
      by true q h = (e, refl, eqb-true e.serial serial q)
      by false q h = absurd (cc)

  -- a slot without an entry is not among these
  pub Apart-dead : (E : ℕ → Option (Entry T W)) (at : ℕ) (cs : List ℕ) → AtEach (λ x. IsSome (E x)) cs → E at ≡ None → Apart (Some at) cs
  Apart-dead E at [] a n = tt
  Apart-dead E at (k ∷ cs) a n =
      (λ q. let e : k ≡ at = cc in let z : is_some (E k) ≡ false = ap is_some (ap E e ∙ n) in absurd (cc), Apart-dead E at cs a.1 n)

  pub lists-listened : (E E' : ℕ → Option (Entry T W)) (at serial : ℕ) (task : Option W) (cs : List ℕ) → Apart (Some at) cs → E' at ≡ Some (fresh_entry serial task) → ((x : ℕ) → x ≢ at → E' x ≡ E x) → lists_at E' (cs ++ at ∷ []) ≡ listened_with task (record { slot = at; serial = serial }) (lists_at E cs)
  lists-listened E E' at serial task cs apart made o =
      let ts = pieces-same (λ k. told_piece k (E k)) (λ k. told_piece k (E' k)) at cs (λ x ne. ap (told_piece x) (o x ne)) apart in
      let ws = pieces-same (λ k. waiting_piece k (E k)) (λ k. waiting_piece k (E' k)) at cs (λ x ne. ap (waiting_piece x) (o x ne)) apart in
      let t : pieces (λ k. told_piece k (E' k)) (cs ++ at ∷ []) ≡ pieces (λ k. told_piece k (E k)) cs =
      rw (pieces-append (λ k. told_piece k (E' k)) cs (at ∷ []), ts, made) (append-nil (pieces (λ k. told_piece k (E k)) cs)) in
      let w : pieces (λ k. waiting_piece k (E' k)) (cs ++ at ∷ []) ≡ pieces (λ k. waiting_piece k (E k)) cs ++ (record { slot = at; serial = serial }, task) ∷ [] =
      rw (pieces-append (λ k. waiting_piece k (E' k)) cs (at ∷ []), ws, made) refl in
      λ i. record { told = t i; waiting = w i }

  no-told : (E : ℕ → Option (Entry T W)) (ws : List ℕ) → AtEach (λ x. IsWaiting (E x)) ws → pieces (λ k. told_piece k (E k)) ws ≡ []
  no-told E [] a = refl
  no-told E (k ∷ ws) a = rw (piece k (E k) a.0) (no-told E ws a.1)
    where
      piece : (k : ℕ) (o : Option (Entry T W)) → IsWaiting o → told_piece k o ≡ []
      piece k None h = absurd h
      piece k (Some e) h = state e.serial e.state h
        where
          state : (n : ℕ) (t : State T W) → IsWaiting (Some (record { serial = n; state = t })) → told_piece k (Some (record { serial = n; state = t })) ≡ []
          state n (Waiting task) h = refl
          state n (Told additional tag) h = absurd h

  no-waiting : (E : ℕ → Option (Entry T W)) (ks : List ℕ) → AtEach (λ x. IsTold (E x)) ks → pieces (λ k. waiting_piece k (E k)) ks ≡ []
  no-waiting E [] a = refl
  no-waiting E (k ∷ ks) a = rw (piece k (E k) a.0) (no-waiting E ks a.1)
    where
      piece : (k : ℕ) (o : Option (Entry T W)) → IsTold o → waiting_piece k o ≡ []
      piece k None h = absurd h
      piece k (Some e) h = state e.serial e.state h
        where
          state : (n : ℕ) (t : State T W) → IsTold (Some (record { serial = n; state = t })) → waiting_piece k (Some (record { serial = n; state = t })) ≡ []
          state n (Waiting task) h = absurd h
          state n (Told additional tag) h = refl

  -- the two lists of a sound chain are its two parts
  pub lists-parts : (E : ℕ → Option (Entry T W)) (ks ws : List ℕ) → AtEach (λ x. IsTold (E x)) ks → AtEach (λ x. IsWaiting (E x)) ws → lists_at E (ks ++ ws) ≡ record { told = pieces (λ k. told_piece k (E k)) ks; waiting = pieces (λ k. waiting_piece k (E k)) ws }
  lists-parts E ks ws t w =
      let a : pieces (λ k. told_piece k (E k)) (ks ++ ws) ≡ pieces (λ k. told_piece k (E k)) ks =
      rw (pieces-append (λ k. told_piece k (E k)) ks ws, no-told E ws w) (append-nil (pieces (λ k. told_piece k (E k)) ks)) in
      let b : pieces (λ k. waiting_piece k (E k)) (ks ++ ws) ≡ pieces (λ k. waiting_piece k (E k)) ws =
      rw (pieces-append (λ k. waiting_piece k (E k)) ks ws, no-waiting E ks t) refl in
      λ i. record { told = a i; waiting = b i }

  pub length-told : (E : ℕ → Option (Entry T W)) (ks : List ℕ) → AtEach (λ x. IsTold (E x)) ks → length (pieces (λ k. told_piece k (E k)) ks) ≡ length ks
  length-told E [] a = refl
  length-told E (k ∷ ks) a =
      let l : length (told_piece k (E k) ++ pieces (λ k. told_piece k (E k)) ks) ≡ length (told_piece k (E k)) + length (pieces (λ k. told_piece k (E k)) ks) = length-append (told_piece k (E k)) (pieces (λ k. told_piece k (E k)) ks) in
      let i = length-told E ks a.1 in
      let o = piece (E k) a.0 in
      omega arith
    where
      piece : (o : Option (Entry T W)) → IsTold o → length (told_piece k o) ≡ 1
      piece None h = absurd h
      piece (Some e) h = state e.serial e.state h
        where
          state : (n : ℕ) (t : State T W) → IsTold (Some (record { serial = n; state = t })) → length (told_piece k (Some (record { serial = n; state = t }))) ≡ 1
          state n (Waiting task) h = absurd h
          state n (Told additional tag) h = refl

  pub length-waiting : (E : ℕ → Option (Entry T W)) (ws : List ℕ) → AtEach (λ x. IsWaiting (E x)) ws → length (pieces (λ k. waiting_piece k (E k)) ws) ≡ length ws
  length-waiting E [] a = refl
  length-waiting E (k ∷ ws) a =
      let l : length (waiting_piece k (E k) ++ pieces (λ k. waiting_piece k (E k)) ws) ≡ length (waiting_piece k (E k)) + length (pieces (λ k. waiting_piece k (E k)) ws) = length-append (waiting_piece k (E k)) (pieces (λ k. waiting_piece k (E k)) ws) in
      let i = length-waiting E ws a.1 in
      let o = piece (E k) a.0 in
      omega arith
    where
      piece : (o : Option (Entry T W)) → IsWaiting o → length (waiting_piece k o) ≡ 1
      piece None h = absurd h
      piece (Some e) h = state e.serial e.state h
        where
          state : (n : ℕ) (t : State T W) → IsWaiting (Some (record { serial = n; state = t })) → length (waiting_piece k (Some (record { serial = n; state = t }))) ≡ 1
          state n (Waiting task) h = refl
          state n (Told additional tag) h = absurd h

  -- the first waiting listener becomes the last told one
  pub lists-told : (E E' : ℕ → Option (Entry T W)) (ks back : List ℕ) (k serial : ℕ) (task : Option W) (additional : Bool) (tag : T) → Distinct (ks ++ k ∷ back) → AtEach (λ x. IsTold (E x)) ks → AtEach (λ x. IsWaiting (E x)) (k ∷ back) → E k ≡ Some (record { serial = serial; state = Waiting task }) → E' k ≡ Some (record { serial = serial; state = Told additional tag }) → ((x : ℕ) → x ≢ k → E' x ≡ E x) → lists_at E' ((ks ++ k ∷ []) ++ back) ≡ notified additional (tag ∷ []) (lists_at E (ks ++ k ∷ back))
  lists-told E E' ks back k serial task additional tag d t w was now o =
      let parts = Distinct-parted ks k back d in
      let tk = AtEach-append (λ x. IsTold (E' x)) ks (k ∷ []) (AtEach-same (λ x. IsTold (E x)) (λ x. IsTold (E' x)) k ks (λ x ne h. subst IsTold (sym (o x ne)) h) parts.front_apart t) (subst IsTold (sym now) tt, tt) in
      let wb = AtEach-same (λ x. IsWaiting (E x)) (λ x. IsWaiting (E' x)) k back (λ x ne h. subst IsWaiting (sym (o x ne)) h) parts.back_apart w.1 in
      let ts = pieces-same (λ k. told_piece k (E k)) (λ k. told_piece k (E' k)) k ks (λ x ne. ap (told_piece x) (o x ne)) parts.front_apart in
      let ws = pieces-same (λ k. waiting_piece k (E k)) (λ k. waiting_piece k (E' k)) k back (λ x ne. ap (waiting_piece x) (o x ne)) parts.back_apart in
      let a : pieces (λ k. told_piece k (E' k)) (ks ++ k ∷ []) ≡ pieces (λ k. told_piece k (E k)) ks ++ (record { slot = k; serial = serial }, record { additional = additional; tag = tag }) ∷ [] =
      rw (pieces-append (λ k. told_piece k (E' k)) ks (k ∷ []), ts, now) refl in
      let b : pieces (λ k. waiting_piece k (E k)) (k ∷ back) ≡ (record { slot = k; serial = serial }, task) ∷ pieces (λ k. waiting_piece k (E k)) back = rw was refl in
      lists-parts E' (ks ++ k ∷ []) back tk wb
      ∙ (λ i. record { told = a i; waiting = ws i })
      ∙ sym (ap (λ r. notified additional (tag ∷ []) (record { told = pieces (λ k. told_piece k (E k)) ks; waiting = r })) b)
      ∙ ap (notified additional (tag ∷ [])) (sym (lists-parts E ks (k ∷ back) t w))

  pub kind-chained : (E : ℕ → Option (Entry T W)) (cs : List ℕ) → Distinct cs → ((k : ℕ) → IsSome (E k) → Among k cs) → (key : Key) → kind_of (lists_at E cs) key ≡ found_entry (E key.slot) key.serial
  kind-chained E cs d c key =
      rw (told_as-entry E cs d c key, waits_as-entry E cs d c key) (kind-entry key (E key.slot))

  pub all-live : (E : ℕ → Option (Entry T W)) (ks ws : List ℕ) → AtEach (λ x. IsTold (E x)) ks → AtEach (λ x. IsWaiting (E x)) ws → AtEach (λ x. IsSome (E x)) (ks ++ ws)
  all-live E ks ws t w =
      AtEach-append (λ x. IsSome (E x)) ks ws
      (AtEach-weaker (λ x. IsTold (E x)) (λ x. IsSome (E x)) ks (λ x. told-live (E x)) t)
      (AtEach-weaker (λ x. IsWaiting (E x)) (λ x. IsSome (E x)) ws (λ x. waiting-live (E x)) w)

  -- the last of a chain, where there is one, is a node
  pub last-of-live : (after before : Link) (E : ℕ → Option (Entry T W)) (cs : List ℕ) → Linked after before None cs None → AtEach (λ x. IsSome (E x)) cs → IfSome (before None) (λ x. IsSome (E x))
  last-of-live after before E cs l a =
      subst (λ v. IfSome v (λ x. IsSome (E x))) (sym (Linked-ends after before None cs None l).1) (last-live (λ x. IsSome (E x)) None cs tt a)

  pub beside-in : (after before : Link) (E : ℕ → Option (Entry T W)) (cs : List ℕ) → Linked after before None cs None → Distinct cs → AtEach (λ x. IsSome (E x)) cs → (k : ℕ) → Among k cs → Beside after before E k
  beside-in after before E cs linked d live k m =
      let front = m.0 in
      let back = m.1 in
      let parts = Distinct-parted front k back (subst Distinct m.2 d) in
      let l = Linked-split after before None front k back None (subst (λ v. Linked after before None v None) m.2 linked) in
      let el = (Linked-ends after before None front (Some k) l.0).1 in
      let er = (Linked-ends after before (Some k) back None l.1).0 in
      let all : AtEach (λ x. IsSome (E x)) (front ++ k ∷ back) = subst (AtEach (λ x. IsSome (E x))) m.2 live in
      record {
        before_live = subst (λ v. IfSome v (λ x. IsSome (E x))) (sym el) (last-live (λ x. IsSome (E x)) None front tt (AtEach-front (λ x. IsSome (E x)) front (k ∷ back) all));
        after_live = subst (λ v. IfSome v (λ x. IsSome (E x))) (sym er) (first-live (λ x. IsSome (E x)) back (AtEach-back (λ x. IsSome (E x)) front (k ∷ back) all).1);
        before_other = λ q. last_or-apart (Some k) None front (λ z. cc) parts.front_apart (sym q ∙ el);
        after_other = λ q. first_or-apart (Some k) None back (λ z. cc) parts.back_apart (sym q ∙ er);
      }

  -- the chains after the told node k left
  module _ {TA TB WA WB : Link} {E : ℕ → Option (Entry T W)} {count told serials : ℕ} {ks ws : List ℕ} (s : Sound TA TB WA WB E count told serials ks ws) (TA' TB' WA' WB' : Link) (E' : ℕ → Option (Entry T W)) (k : ℕ) (gone : E' k ≡ None) (others : (x : ℕ) → x ≢ k → E' x ≡ E x) where
    left-fresh : (x : ℕ) (e : Entry T W) → E' x ≡ Some e → e.serial < serials
    left-fresh x e h =
        elim (cases_eq x k) [
          | inl q ↦ let z : None ≡ Some e = sym gone ∙ ap E' (sym q) ∙ h in absurd (cc)
          | inr ne ↦ s.fresh x e (sym (others x ne) ∙ h)
        ]

    left-covered : (front back : List ℕ) → ks ++ ws ≡ front ++ k ∷ back → (x : ℕ) → IsSome (E' x) → Among x (front ++ back)
    left-covered front back was x i =
        elim (cases_eq x k) [
          | inl q ↦ let z : is_some (E' x) ≡ false = ap is_some (ap E' q ∙ gone) in absurd (cc)
          | inr ne ↦ Among-left x k front back (subst (Among x) was (s.covered x (ap is_some (sym (others x ne)) ∙ i))) ne
        ]

    pub Sound-leave-told : Among k ks → Unlinks TA TB TA' TB' k → WA' None ≡ WA None → WB' None ≡ WB None → ((x : ℕ) → TA (Some x) ≡ WA (Some x)) → ((x : ℕ) → TA' (Some x) ≡ WA' (Some x)) → ((x : ℕ) → TB (Some x) ≡ WB (Some x)) → ((x : ℕ) → TB' (Some x) ≡ WB' (Some x)) → (count' told' : ℕ) → count' + 1 ≡ count → told' + 1 ≡ told → (front : List ℕ) × (back : List ℕ) × (ks ≡ front ++ k ∷ back) × Sound TA' TB' WA' WB' E' count' told' serials (front ++ back) ws
    Sound-leave-told m u wa wb fa fa' bb bb' count' told' counted telling =
        let front = m.0 in
        let back = m.1 in
        let split = m.2 in
        let was : ks ++ ws ≡ front ++ k ∷ (back ++ ws) = ap (λ r. r ++ ws) split ∙ append_assoc front (k ∷ back) ws in
        let now : (front ++ back) ++ ws ≡ front ++ (back ++ ws) = append_assoc front back ws in
        let parts = Distinct-parted front k (back ++ ws) (subst Distinct was s.chains.distinct) in
        let l : Linked TA TB None (front ++ k ∷ back) None = subst (λ r. Linked TA TB None r None) split s.chains.told in
        let d : Distinct (front ++ k ∷ back) = subst Distinct split (Distinct-head ks ws s.chains.distinct) in
        let cut = Linked-split TA TB None front k back None l in
        let el = (Linked-ends TA TB None front (Some k) cut.0).1 in
        let er = (Linked-ends TA TB (Some k) back None cut.1).0 in
        let cross = AllApart-among front k back ws (subst (λ r. AllApart r ws) split (Distinct-cross ks ws s.chains.distinct)) in
        let all : AtEach (λ x. IsTold (E x)) (front ++ k ∷ back) = subst (AtEach (λ x. IsTold (E x))) split s.tolds in
        let keeps : (x : ℕ) → x ≢ k → IsTold (E x) → IsTold (E' x) = λ x ne t. subst IsTold (sym (others x ne)) t in
        let waits : (x : ℕ) → x ≢ k → IsWaiting (E x) → IsWaiting (E' x) = λ x ne t. subst IsWaiting (sym (others x ne)) t in
        let l1 : length ks ≡ length (front ++ k ∷ back) = ap length split in
        let la : length (front ++ k ∷ back) ≡ length front + length (k ∷ back) = length-append front (k ∷ back) in
        let lb : length (front ++ back) ≡ length front + length back = length-append front back in
        let lc : length (ks ++ ws) ≡ length ks + length ws = length-append ks ws in
        let ld : length ((front ++ back) ++ ws) ≡ length (front ++ back) + length ws = length-append (front ++ back) ws in (
          front,
          back,
          split,
          record {
            chains = record {
              told = Linked-unlink u front back l d;
              waiting = Linked-away WA WB WA' WB' TA TA' TB TB' ws (TB (Some k)) (TA (Some k)) (Some k) s.chains.waiting wa wb fa fa' bb bb' u.forward_rest u.backward_rest
                  (subst (λ v. Apart v ws) (sym el) (last_or-away None front ws (Apart-none ws) cross.0)) (subst (λ v. Apart v ws) (sym er) (first_or-far back ws cross.2)) cross.1;
              distinct = subst Distinct (sym now) (Distinct-joined front (back ++ ws) parts.front_distinct parts.back_distinct parts.cross);
            };
            covered = λ x i. subst (Among x) (sym now) (left-covered front (back ++ ws) was x i);
            tolds = AtEach-append (λ x. IsTold (E' x)) front back
                (AtEach-same (λ x. IsTold (E x)) (λ x. IsTold (E' x)) k front keeps parts.front_apart (AtEach-front (λ x. IsTold (E x)) front (k ∷ back) all))
                (AtEach-same (λ x. IsTold (E x)) (λ x. IsTold (E' x)) k back keeps (Apart-front (Some k) back ws parts.back_apart) (AtEach-back (λ x. IsTold (E x)) front (k ∷ back) all).1);
            waits = AtEach-same (λ x. IsWaiting (E x)) (λ x. IsWaiting (E' x)) k ws waits cross.1 s.waits;
            count_is = omega (arith, s.count_is);
            told_is = omega (arith, s.told_is);
            fresh = left-fresh;
          },
        )

    pub Sound-leave-waiting : Among k ws → Unlinks WA WB WA' WB' k → TA' None ≡ TA None → TB' None ≡ TB None → ((x : ℕ) → WA (Some x) ≡ TA (Some x)) → ((x : ℕ) → WA' (Some x) ≡ TA' (Some x)) → ((x : ℕ) → WB (Some x) ≡ TB (Some x)) → ((x : ℕ) → WB' (Some x) ≡ TB' (Some x)) → (count' : ℕ) → count' + 1 ≡ count → (front : List ℕ) × (back : List ℕ) × (ws ≡ front ++ k ∷ back) × Sound TA' TB' WA' WB' E' count' told serials ks (front ++ back)
    Sound-leave-waiting m u wa wb fa fa' bb bb' count' counted =
        let front = m.0 in
        let back = m.1 in
        let split = m.2 in
        let was : ks ++ ws ≡ (ks ++ front) ++ k ∷ back = ap (λ r. ks ++ r) split ∙ sym (append_assoc ks front (k ∷ back)) in
        let now : ks ++ (front ++ back) ≡ (ks ++ front) ++ back = sym (append_assoc ks front back) in
        let parts = Distinct-parted (ks ++ front) k back (subst Distinct was s.chains.distinct) in
        let l : Linked WA WB None (front ++ k ∷ back) None = subst (λ r. Linked WA WB None r None) split s.chains.waiting in
        let d : Distinct (front ++ k ∷ back) = subst Distinct split (Distinct-tail ks ws s.chains.distinct) in
        let cut = Linked-split WA WB None front k back None l in
        let el = (Linked-ends WA WB None front (Some k) cut.0).1 in
        let er = (Linked-ends WA WB (Some k) back None cut.1).0 in
        let cross = AllApart-among front k back ks (subst (λ r. AllApart r ks) split (AllApart-turn ks ws (Distinct-cross ks ws s.chains.distinct))) in
        let all : AtEach (λ x. IsWaiting (E x)) (front ++ k ∷ back) = subst (AtEach (λ x. IsWaiting (E x))) split s.waits in
        let fapart : Apart (Some k) front = Apart-back (Some k) ks front parts.front_apart in
        let keeps : (x : ℕ) → x ≢ k → IsTold (E x) → IsTold (E' x) = λ x ne t. subst IsTold (sym (others x ne)) t in
        let waits : (x : ℕ) → x ≢ k → IsWaiting (E x) → IsWaiting (E' x) = λ x ne t. subst IsWaiting (sym (others x ne)) t in
        let l1 : length ws ≡ length (front ++ k ∷ back) = ap length split in
        let la : length (front ++ k ∷ back) ≡ length front + length (k ∷ back) = length-append front (k ∷ back) in
        let lb : length (front ++ back) ≡ length front + length back = length-append front back in
        let lc : length (ks ++ ws) ≡ length ks + length ws = length-append ks ws in
        let ld : length (ks ++ (front ++ back)) ≡ length ks + length (front ++ back) = length-append ks (front ++ back) in (
          front,
          back,
          split,
          record {
            chains = record {
              told = Linked-away TA TB TA' TB' WA WA' WB WB' ks (WB (Some k)) (WA (Some k)) (Some k) s.chains.told wa wb fa fa' bb bb' u.forward_rest u.backward_rest
                  (subst (λ v. Apart v ks) (sym el) (last_or-away None front ks (Apart-none ks) cross.0)) (subst (λ v. Apart v ks) (sym er) (first_or-far back ks cross.2)) cross.1;
              waiting = Linked-unlink u front back l d;
              distinct = subst Distinct (sym now) (Distinct-joined (ks ++ front) back parts.front_distinct parts.back_distinct parts.cross);
            };
            covered = λ x i. subst (Among x) (sym now) (left-covered (ks ++ front) back was x i);
            tolds = AtEach-same (λ x. IsTold (E x)) (λ x. IsTold (E' x)) k ks keeps cross.1 s.tolds;
            waits = AtEach-append (λ x. IsWaiting (E' x)) front back
                (AtEach-same (λ x. IsWaiting (E x)) (λ x. IsWaiting (E' x)) k front waits fapart (AtEach-front (λ x. IsWaiting (E x)) front (k ∷ back) all))
                (AtEach-same (λ x. IsWaiting (E x)) (λ x. IsWaiting (E' x)) k back waits parts.back_apart (AtEach-back (λ x. IsWaiting (E x)) front (k ∷ back) all).1);
            count_is = omega (arith, s.count_is);
            told_is = s.told_is;
            fresh = left-fresh;
          },
        )

  -- a listener that is added
  pub Sound-insert : {TA TB WA WB : Link} {E : ℕ → Option (Entry T W)} {count told serials : ℕ} {ks ws : List ℕ} → Sound TA TB WA WB E count told serials ks ws → (TA' TB' WA' WB' : Link) (E' : ℕ → Option (Entry T W)) (count' serials' at : ℕ) (task : Option W) → E at ≡ None → Links_last WA WB WA' WB' at → TA' None ≡ TA None → TB' None ≡ TB None → ((x : ℕ) → WA (Some x) ≡ TA (Some x)) → ((x : ℕ) → WA' (Some x) ≡ TA' (Some x)) → ((x : ℕ) → WB (Some x) ≡ TB (Some x)) → ((x : ℕ) → WB' (Some x) ≡ TB' (Some x)) → E' at ≡ Some (fresh_entry serials task) → ((x : ℕ) → x ≢ at → E' x ≡ E x) → count' ≡ count + 1 → serials' ≡ serials + 1 → Sound TA' TB' WA' WB' E' count' told serials' ks (ws ++ at ∷ [])
  Sound-insert {TA} {TB} {WA} {WB} {E} {count} {told} {serials} {ks} {ws} s TA' TB' WA' WB' E' count' serials' at task dead u ta tb fa fa' bb bb' made others counted more =
      let assoc : (ks ++ ws) ++ at ∷ [] ≡ ks ++ (ws ++ at ∷ []) = append_assoc ks ws (at ∷ []) in
      let apart = Apart-dead E at (ks ++ ws) (all-live E ks ws s.tolds s.waits) dead in
      let ak = Apart-front (Some at) ks ws apart in
      let aw = Apart-back (Some at) ks ws apart in
      let keeps : (x : ℕ) → x ≢ at → IsTold (E x) → IsTold (E' x) = λ x ne t. subst IsTold (sym (others x ne)) t in
      let waits : (x : ℕ) → x ≢ at → IsWaiting (E x) → IsWaiting (E' x) = λ x ne t. subst IsWaiting (sym (others x ne)) t in
      let el = (Linked-ends WA WB None ws None s.chains.waiting).1 in
      let l1 : length (ks ++ ws) ≡ length ks + length ws = length-append ks ws in
      let l2 : length (ks ++ (ws ++ at ∷ [])) ≡ length ks + length (ws ++ at ∷ []) = length-append ks (ws ++ at ∷ []) in
      let l3 : length (ws ++ at ∷ []) ≡ length ws + 1 = length-append ws (at ∷ []) in
      record {
        chains = record {
          told = Linked-away TA TB TA' TB' WA WA' WB WB' ks (WB None) None (Some at) s.chains.told ta tb fa fa' bb bb' u.forward_rest u.backward_rest
              (subst (λ v. Apart v ks) (sym el) (last_or-away None ws ks (Apart-none ks) (AllApart-turn ks ws (Distinct-cross ks ws s.chains.distinct)))) (Apart-none ks) ak;
          waiting = Linked-last u ws s.chains.waiting (Distinct-tail ks ws s.chains.distinct) aw;
          distinct = subst Distinct assoc (Distinct-more at (ks ++ ws) apart s.chains.distinct);
        };
        covered = λ x i. subst (Among x) assoc (elim (cases_eq x at) [
          | inl q ↦ subst (λ v. Among v ((ks ++ ws) ++ at ∷ [])) (sym q) (Among-last at (ks ++ ws))
          | inr ne ↦ Among-more x at (ks ++ ws) (s.covered x (ap is_some (sym (others x ne)) ∙ i))
        ]);
        tolds = AtEach-same (λ x. IsTold (E x)) (λ x. IsTold (E' x)) at ks keeps ak s.tolds;
        waits = AtEach-append (λ x. IsWaiting (E' x)) ws (at ∷ []) (AtEach-same (λ x. IsWaiting (E x)) (λ x. IsWaiting (E' x)) at ws waits aw s.waits) (subst IsWaiting (sym made) tt, tt);
        count_is = omega (arith, s.count_is);
        told_is = s.told_is;
        fresh = λ x e h. elim (cases_eq x at) [
          | inl q ↦ let f : ◌≡◌ {A = Entry T W} (fresh_entry serials task) e = fresh-same e (sym made ∙ ap E' (sym q) ∙ h) in
              let g : serials ≡ e.serial = ap (λ (r : Entry T W). r.serial) f in omega arith
          | inr ne ↦ let g = s.fresh x e (sym (others x ne) ∙ h) in omega arith
        ];
      }
    where
      fresh-same : (e : Entry T W) → Some (fresh_entry serials task) ≡ Some e → ◌≡◌ {A = Entry T W} (fresh_entry serials task) e
      fresh-same e h = cc

  -- The fields while a notification tells: the first waiting nodes have their new state, and still stand in the waiting chain.
  pub record Telling (TA TB WA WB : Link) (E : ℕ → Option (Entry T W)) (count told serials : ℕ) (ks front back : List ℕ) : Type 0 where
    pub chains : Chains TA TB WA WB ks (front ++ back)
    pub covered : (k : ℕ) → IsSome (E k) → Among k ((ks ++ front) ++ back)
    pub tolds : AtEach (λ k. IsTold (E k)) (ks ++ front)
    pub waits : AtEach (λ k. IsWaiting (E k)) back
    pub count_is : length ((ks ++ front) ++ back) ≡ count
    pub told_is : told ≡ length ks
    pub fresh : (k : ℕ) (e : Entry T W) → E k ≡ Some e → e.serial < serials

  pub telling-begun : {TA TB WA WB : Link} {E : ℕ → Option (Entry T W)} {count told serials : ℕ} {ks ws : List ℕ} → Sound TA TB WA WB E count told serials ks ws → Telling TA TB WA WB E count told serials ks [] ws
  telling-begun {TA} {TB} {WA} {WB} {E} {count} {told} {serials} {ks} {ws} s =
      let e : ks ++ [] ≡ ks = append-nil ks in
      record {
        chains = s.chains;
        covered = λ k i. subst (λ r. Among k (r ++ ws)) (sym e) (s.covered k i);
        tolds = subst (AtEach (λ k. IsTold (E k))) (sym e) s.tolds;
        waits = s.waits;
        count_is = ap (λ r. length (r ++ ws)) e ∙ s.count_is;
        told_is = s.told_is;
        fresh = s.fresh;
      }

  pub telling-distinct : {TA TB WA WB : Link} {E : ℕ → Option (Entry T W)} {count told serials : ℕ} {ks front back : List ℕ} → Telling TA TB WA WB E count told serials ks front back → Distinct ((ks ++ front) ++ back)
  telling-distinct {TA} {TB} {WA} {WB} {E} {count} {told} {serials} {ks} {front} {back} s = subst Distinct (sym (append_assoc ks front back)) s.chains.distinct

  -- one more is told in its place
  pub telling-more : {TA TB WA WB : Link} {E : ℕ → Option (Entry T W)} {count told serials : ℕ} {ks front back : List ℕ} {k : ℕ} → Telling TA TB WA WB E count told serials ks front (k ∷ back) → (TA' TB' WA' WB' : Link) (E' : ℕ → Option (Entry T W)) (e : Entry T W) → ((x : Option ℕ) → TA' x ≡ TA x) → ((x : Option ℕ) → TB' x ≡ TB x) → ((x : Option ℕ) → WA' x ≡ WA x) → ((x : Option ℕ) → WB' x ≡ WB x) → E k ≡ Some e → (additional : Bool) (tag : T) → E' k ≡ Some (record { serial = e.serial; state = Told additional tag }) → ((x : ℕ) → x ≢ k → E' x ≡ E x) → Telling TA' TB' WA' WB' E' count told serials ks (front ++ k ∷ []) back
  telling-more {TA} {TB} {WA} {WB} {E} {count} {told} {serials} {ks} {front} {back} {k} s TA' TB' WA' WB' E' e fa fb ga gb here additional tag now others =
      let one : (ks ++ front) ++ k ∷ [] ≡ ks ++ (front ++ k ∷ []) = append_assoc ks front (k ∷ []) in
      let run : front ++ k ∷ back ≡ (front ++ k ∷ []) ++ back = sym (append_assoc front (k ∷ []) back) in
      let whole : (ks ++ front) ++ k ∷ back ≡ (ks ++ (front ++ k ∷ [])) ++ back = sym (append_assoc (ks ++ front) (k ∷ []) back) ∙ ap (λ r. r ++ back) one in
      let parts = Distinct-parted (ks ++ front) k back (telling-distinct s) in
      let wl : Linked WA WB None ((front ++ k ∷ []) ++ back) None = subst (λ r. Linked WA WB None r None) run s.chains.waiting in
      record {
        chains = record {
          told = Linked-all TA TB TA' TB' fa fb None ks None s.chains.told;
          waiting = Linked-all WA WB WA' WB' ga gb None ((front ++ k ∷ []) ++ back) None wl;
          distinct = subst (λ r. Distinct (ks ++ r)) run s.chains.distinct;
        };
        covered = λ x i. subst (Among x) whole (elim (cases_eq x k) [
          | inl q ↦ subst (λ y. Among y ((ks ++ front) ++ k ∷ back)) (sym q) (s.covered k (ap is_some here))
          | inr ne ↦ s.covered x (ap is_some (sym (others x ne)) ∙ i)
        ]);
        tolds = subst (AtEach (λ x. IsTold (E' x))) one (AtEach-append (λ x. IsTold (E' x)) (ks ++ front) (k ∷ [])
            (AtEach-same (λ x. IsTold (E x)) (λ x. IsTold (E' x)) k (ks ++ front) (λ x ne t. subst IsTold (sym (others x ne)) t) parts.front_apart s.tolds)
            (subst IsTold (sym now) tt, tt));
        waits = AtEach-same (λ x. IsWaiting (E x)) (λ x. IsWaiting (E' x)) k back (λ x ne t. subst IsWaiting (sym (others x ne)) t) parts.back_apart s.waits.1;
        count_is = ap length (sym whole) ∙ s.count_is;
        told_is = s.told_is;
        fresh = λ x f h. elim (cases_eq x k) [
          | inl q ↦ let z = same f (sym now ∙ ap E' (sym q) ∙ h) in let l = s.fresh k e here in omega arith
          | inr ne ↦ s.fresh x f (sym (others x ne) ∙ h)
        ];
      }
    where
      same : (f : Entry T W) → ◌≡◌ {A = Option (Entry T W)} (Some (record { serial = e.serial; state = Told additional tag })) (Some f) → e.serial ≡ f.serial
      same f h = let z : ◌≡◌ {A = Entry T W} (record { serial = e.serial; state = Told additional tag }) f = cc in ap (λ (r : Entry T W). r.serial) z

  -- those that were told have moved
  pub telling-ended : {TA TB WA WB : Link} {E : ℕ → Option (Entry T W)} {count told serials : ℕ} {ks front back : List ℕ} → Telling TA TB WA WB E count told serials ks front back → (TA' TB' WA' WB' : Link) (E' : ℕ → Option (Entry T W)) → Chains TA' TB' WA' WB' (ks ++ front) back → ((x : ℕ) → E' x ≡ E x) → (count' told' serials' : ℕ) → count' ≡ count → told' ≡ told + length front → serials' ≡ serials → Sound TA' TB' WA' WB' E' count' told' serials' (ks ++ front) back
  telling-ended {TA} {TB} {WA} {WB} {E} {count} {told} {serials} {ks} {front} {back} s TA' TB' WA' WB' E' c same count' told' serials' counted more given =
      let l : length (ks ++ front) ≡ length ks + length front = length-append ks front in
      record {
        chains = c;
        covered = λ k i. s.covered k (ap is_some (sym (same k)) ∙ i);
        tolds = AtEach-weaker (λ x. IsTold (E x)) (λ x. IsTold (E' x)) (ks ++ front) (λ x t. subst IsTold (sym (same x)) t) s.tolds;
        waits = AtEach-weaker (λ x. IsWaiting (E x)) (λ x. IsWaiting (E' x)) back (λ x t. subst IsWaiting (sym (same x)) t) s.waits;
        count_is = s.count_is ∙ sym counted;
        told_is = omega (arith, s.told_is);
        fresh = λ k e h. let f = s.fresh k e (sym (same k) ∙ h) in omega arith;
      }

  -- the walks of both chains
  pub chain-is : {TA TB WA WB : Link} {E : ℕ → Option (Entry T W)} {count told serials : ℕ} {ks ws : List ℕ} → Sound TA TB WA WB E count told serials ks ws → walk TA told None ++ walk WA (count - told) None ≡ ks ++ ws
  chain-is {TA} {TB} {WA} {WB} {E} {count} {told} {serials} {ks} {ws} s =
      let l : length (ks ++ ws) ≡ length ks + length ws = length-append ks ws in
      let n : length ws ≡ count - told = omega (arith, s.count_is, s.told_is) in
      let a : walk TA told None ≡ ks = subst (λ m. walk TA m None ≡ ks) (sym s.told_is) (walk-linked TA TB None ks s.chains.told) in
      let b : walk WA (count - told) None ≡ ws = subst (λ m. walk WA m None ≡ ws) n (walk-linked WA WB None ws s.chains.waiting) in
      λ i. a i ++ b i

  -- whether the entry that was found is told
  pub found-told : (e : Entry T W) (serial : ℕ) (b : Bool) → e.serial ≡ serial → found_entry (Some e) serial ≡ Some b → is_told e.state ≡ b
  found-told e serial b h f =
      let g : ◌≡◌ {A = Option Bool} (Some (is_told e.state)) (Some b) = sym (ap (λ c. cond c (Some (is_told e.state)) None) (eq-eqb e.serial serial h)) ∙ f in
      cc

  pub among-told : (E : ℕ → Option (Entry T W)) (ks ws : List ℕ) (k : ℕ) (e : Entry T W) → AtEach (λ x. IsWaiting (E x)) ws → Among k (ks ++ ws) → E k ≡ Some e → is_told e.state ≡ true → Among k ks
  among-told E ks ws k e w m here t =
      elim (Among-cases k ks ws m) [
        | inl a ↦ a
        | inr a ↦ let all : AtEach (λ x. IsWaiting (E x)) (a.0 ++ k ∷ a.1) = subst (AtEach (λ x. IsWaiting (E x))) a.2 w in
            let f : true ≡ false = sym t ∙ waiting-is k (E k) e here (AtEach-among (λ x. IsWaiting (E x)) k a.0 a.1 all) in absurd (cc)
      ]

  pub among-waiting : (E : ℕ → Option (Entry T W)) (ks ws : List ℕ) (k : ℕ) (e : Entry T W) → AtEach (λ x. IsTold (E x)) ks → Among k (ks ++ ws) → E k ≡ Some e → is_told e.state ≡ false → Among k ws
  among-waiting E ks ws k e t m here w =
      elim (Among-cases k ks ws m) [
        | inl a ↦ let all : AtEach (λ x. IsTold (E x)) (a.0 ++ k ∷ a.1) = subst (AtEach (λ x. IsTold (E x))) a.2 t in
            let f : true ≡ false = sym (told-is k (E k) e here (AtEach-among (λ x. IsTold (E x)) k a.0 a.1 all)) ∙ w in absurd (cc)
        | inr a ↦ a
      ]

  -- a waiting node gets a task
  pub Sound-store : {TA TB WA WB : Link} {E : ℕ → Option (Entry T W)} {count told serials : ℕ} {ks ws : List ℕ} → Sound TA TB WA WB E count told serials ks ws → (TA' TB' WA' WB' : Link) (E' : ℕ → Option (Entry T W)) (k : ℕ) (e : Entry T W) → ((x : Option ℕ) → TA' x ≡ TA x) → ((x : Option ℕ) → TB' x ≡ TB x) → ((x : Option ℕ) → WA' x ≡ WA x) → ((x : Option ℕ) → WB' x ≡ WB x) → E k ≡ Some e → (old : Option W) → e.state ≡ Waiting old → (task : Option W) → E' k ≡ Some (record { serial = e.serial; state = Waiting task }) → ((x : ℕ) → x ≢ k → E' x ≡ E x) → Sound TA' TB' WA' WB' E' count told serials ks ws
  Sound-store {TA} {TB} {WA} {WB} {E} {count} {told} {serials} {ks} {ws} s TA' TB' WA' WB' E' k e fa fb ga gb here old was task now others =
      record {
        chains = record {
          told = Linked-all TA TB TA' TB' fa fb None ks None s.chains.told;
          waiting = Linked-all WA WB WA' WB' ga gb None ws None s.chains.waiting;
          distinct = s.chains.distinct;
        };
        covered = λ x i. elim (cases_eq x k) [
          | inl q ↦ subst (λ v. Among v (ks ++ ws)) (sym q) (s.covered k (ap is_some here))
          | inr ne ↦ s.covered x (ap is_some (sym (others x ne)) ∙ i)
        ];
        tolds = each IsTold ks (λ t. absurd (subst (λ v. IsTold (Some (record { serial = e.serial; state = v }))) was (subst IsTold here t))) s.tolds;
        waits = each IsWaiting ws (λ t. subst IsWaiting (sym now) tt) s.waits;
        count_is = s.count_is;
        told_is = s.told_is;
        fresh = λ x d h. elim (cases_eq x k) [
          | inl q ↦ let z = same d (sym now ∙ ap E' (sym q) ∙ h) in let l = s.fresh k e here in omega arith
          | inr ne ↦ s.fresh x d (sym (others x ne) ∙ h)
        ];
      }
    where
      same : (d : Entry T W) → ◌≡◌ {A = Option (Entry T W)} (Some (record { serial = e.serial; state = Waiting task })) (Some d) → e.serial ≡ d.serial
      same d h = let z : ◌≡◌ {A = Entry T W} (record { serial = e.serial; state = Waiting task }) d = cc in ap (λ (r : Entry T W). r.serial) z

      each : (P : Option (Entry T W) → Type 0) (cs : List ℕ) → (P (E k) → P (E' k)) → AtEach (λ x. P (E x)) cs → AtEach (λ x. P (E' x)) cs
      each P cs h a =
          AtEach-weaker (λ x. P (E x)) (λ x. P (E' x)) cs (λ x p. elim (cases_eq x k) [ inl q ↦ subst (λ v. P (E' v)) (sym q) (h (subst (λ v. P (E v)) q p)) | inr ne ↦ subst P (sym (others x ne)) p ]) a
