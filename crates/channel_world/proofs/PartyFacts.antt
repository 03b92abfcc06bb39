-- Steps of one party, made one at a time, are one run.
use Rattle.std.specs.Prelude.{◌≡◌, ◌+◌, ◌∷◌, ◌==◌, ◌<◌, ◌++◌}
use Rattle.channel_world.proofs.Words.{arith, ℕ, List, [], length, Option, None, Some, IfSome, ap, length-append, Runs, State, Call, WorldRefusal, Stopped, run_entries, Stands, NameState, StopsAt, LeadsBy, RanTo, WorldState, Entry, Step, zero, suc, replicate, Bool, true, false, is_some, refl, sym, ◌∙◌, subst, append-nil, append_assoc, eqb-true, replicate_more, Reply, Waiter, EachStep, IsRun, end_of, Configuration, run_on, agents_of, name_state_of, step_refusal, StepIsMade, MayRefuseStep, name_state_ended, with_woken, Moment, accepted_in, left_in, moment_of, PartyId, steps_asked, refused_of, AreSilent, EndsWithAnswer, StepsOnce, view_of}
use Rattle.channel_world_model.specs.declared.run.Done.{Done}
use Rattle.channel_world_runs.specs.Calls.{Agent}
use Rattle.channel_world_runs.proofs.AccountFacts.{accounts_both}

-- ---- how many steps of a list were made, and where it stopped

module _ {T : Type 0} where
  -- where it did not stop the list is used up
  pub all_used_up : (b : NameState T) (left : List (Step T)) (made : ℕ) (stopped : Option Stopped) → StopsAt b left made stopped → stopped ≡ None → left ≡ []
  all_used_up b left made None stops e = stops
  all_used_up b left made (Some s) stops e = cc e

  -- where it did, the place says how many were made
  pub place_is : (b : NameState T) (left : List (Step T)) (made : ℕ) (stopped : Option Stopped) → StopsAt b left made stopped
      → IfSome stopped (λ s. s.place ≡ made)
  place_is b left made None stops = tt
  place_is b [] made (Some s) stops = absurd stops
  place_is b (x ∷ left) made (Some s) stops = stops.0

  -- the steps that were made and those that are left are all
  pub all_made : (steps left : List (Step T)) (old : WorldState T) (trace : List (Entry T)) (new : WorldState T) → RanTo steps left old trace new
      → Stands old → length trace + length left ≡ length steps
  all_made steps left old trace new ran before =
      let r = ran before.configuration before.stands in
      let entries = run_entries LeadsBy _ r.made trace _ r.run in
      let all = ap (λ (xs : List (Step T)). length xs) r.first in
      let both = length-append r.made left in
      omega (arith, entries, all, both)

  -- a list of calls that did not stop is used up
  pub calls_used_up : (s : State T) (calls : List (Call T)) (done : List (Done T)) (rest : List (Call T)) (t : State T) → Runs s calls done None rest t
      → rest ≡ []
  calls_used_up s [] [] rest t ran = ran.0
  calls_used_up s (c ∷ calls) [] rest t ran = absurd ran.2
  calls_used_up s [] (d ∷ done) rest t ran = absurd ran
  calls_used_up s (c ∷ calls) (d ∷ done) rest t ran = calls_used_up ran.0 calls done rest t ran.2

  -- and of each list the calls that were made and those that are left are all
  pub calls_made : (s : State T) (calls : List (Call T)) (done : List (Done T)) (why : Option WorldRefusal) (rest : List (Call T)) (t : State T)
      → Runs s calls done why rest t → length done + length rest ≡ length calls
  calls_made s calls [] why rest t ran = let same = ap (λ (cs : List (Call T)). length cs) ran.0 in omega (arith, same)
  calls_made s [] (d ∷ done) why rest t ran = absurd ran
  calls_made s (c ∷ calls) (d ∷ done) why rest t ran = let more = calls_made ran.0 calls done why rest t ran.2 in omega (arith, more)

-- a list of one in two parts, of which the second has its element
pub first_of : {A : Type 0} (x y : A) (made ys : List A) → x ∷ [] ≡ made ++ y ∷ ys → (made ≡ []) × (y ∷ ys ≡ x ∷ [])
first_of x y [] ys e = (refl, sym e)
first_of x y (z ∷ []) ys e = absurd (cc e)
first_of x y (z ∷ w ∷ ws) ys e = absurd (cc e)

-- how many are written, by the test that was made of a list with as many
pub some_written : {A : Type 0} (n : ℕ) (xs ys : List A) → (n == 0) ≡ false → n ≡ length xs → xs ≡ ys → 0 < length ys
some_written {A = A} zero xs ys e long same = absurd (cc e)
some_written {A = A} (suc n) xs ys e long same = let l = ap (λ (zs : List A). length zs) same in omega (arith, long, l)

pub none_written : {A : Type 0} (n : ℕ) (xs ys : List A) → (n == 0) ≡ true → n ≡ length xs → xs ≡ ys → length ys ≡ 0
none_written {A = A} n xs ys e long same =
    let z = eqb-true n 0 e in
    let l = ap (λ (zs : List A). length zs) same in
    omega (arith, z, long, l)

every : {A P : Type 0} (o : Option A) → P → IfSome o (λ r. P)
every None p = tt
every (Some r) p = p

module _ {T : Type 0} where
  -- ---- one run after another

  accepted_on : (es fs : List (Entry T)) → accepted_in (es ++ fs) ≡ accepted_in es + accepted_in fs
  accepted_on [] fs = omega arith
  accepted_on (e ∷ es) fs = let h = accepted_on es fs in omega (arith, h)

  left_on : (es fs : List (Entry T)) → left_in (es ++ fs) ≡ left_in es + left_in fs
  left_on [] fs = omega arith
  left_on (e ∷ es) fs = let h = left_on es fs in omega (arith, h)

  ran_on : (xs ys left : List (Step T)) (f g h : WorldState T) (trace more : List (Entry T)) → RanTo xs [] f trace g → RanTo ys left g more h
      → RanTo (xs ++ ys) left f (trace ++ more) h
  ran_on xs ys left f g h trace more a b s k =
      let r = a s k in
      let t = b r.last r.stands in
      record {
        made = r.made ++ t.made;
        last = t.last;
        first = ap (λ (l : List (Step T)). l ++ ys) (r.first ∙ append-nil r.made)
            ∙ (ap (λ (l : List (Step T)). r.made ++ l) t.first ∙ sym (append_assoc r.made t.made left));
        run = run_on LeadsBy (moment_of f s) (moment_of g r.last) (moment_of h t.last) r.made t.made trace more r.run t.run;
        stands = t.stands;
        accounts = accounts_both s r.last t.last r.accounts t.accounts;
        numbers = (
            let one = r.numbers in
            let two = t.numbers in
            omega (arith, one, two, accepted_on trace more, left_on trace more)
            );
      }

  -- ---- one step

  made_all : (x : Step T) (made left : List (Step T)) → x ∷ [] ≡ made ++ left → left ≡ [] → made ≡ x ∷ []
  made_all x made left e none =
      sym (e ∙ (ap (λ (l : List (Step T)). made ++ l) none ∙ append-nil made))

  -- a run of one step has one entry
  record One (m : Moment T) (x : Step T) (es : List (Entry T)) (n : Moment T) : Type 0 where
    pub entry : Entry T
    pub entries : es ≡ entry ∷ []
    pub by : LeadsBy m x entry n

  only : (m n : Moment T) (x : Step T) (es : List (Entry T)) (ns : List (Moment T)) → EachStep LeadsBy m (x ∷ []) es ns → end_of m ns ≡ n
      → One m x es n
  only m n x [] ns h same = absurd h
  only m n x (e ∷ es) [] h same = absurd h
  only m n x (e ∷ []) (o ∷ []) h same = record { entry = e; entries = refl; by = subst (λ (k : Moment T). LeadsBy m x e k) same h.0 }
  only m n x (e ∷ []) (o ∷ p ∷ ps) h same = absurd h.1
  only m n x (e ∷ f ∷ es) (o ∷ os) h same = absurd h.1

  -- and one of none has none
  none : (m n : Moment T) (es : List (Entry T)) → IsRun LeadsBy m [] es n → es ≡ []
  none m n [] run = refl
  none m n (e ∷ es) run = absurd run.each

  -- a party whose step did not answer is at work still
  still_at_work : (b : NameState T) (s : Configuration T Waiter) (p : PartyId) (e : Entry T) (c : NameState T) (t : Configuration T Waiter)
      → StepIsMade b s (Step.Step p) e c t → e.reply ≡ None → step_refusal c.name_table c.agents (Step.Step p) ≡ None
  still_at_work b s p e c t made silent =
      let k = made.name_state.0 in
      let a = made.name_state.1 in
      let is : c ≡ name_state_ended k a None made.kept (with_woken e.woken.items b) =
      subst (λ (r : Option (Reply T)). c ≡ name_state_ended k a r made.kept (with_woken e.woken.items b)) silent made.name_state.4 in
      let same : c.agents ≡ b.agents = ap (λ (d : NameState T). d.agents) is in
      subst (λ (agents : List (Agent T)). step_refusal c.name_table agents (Step.Step p) ≡ None) (sym same) made.not_refused

  -- a list of one step that was used up: it was made
  pub record OneMade (p : PartyId) (old : WorldState T) (trace : List (Entry T)) (new : WorldState T) : Type 0 where
    pub entry : Entry T
    pub entries : trace ≡ entry ∷ []
    pub ran : RanTo (Step.Step p ∷ []) [] old (entry ∷ []) new
    pub goes_on : entry.reply ≡ None → step_refusal new.name_table (agents_of new) (Step.Step p) ≡ None

  pub one_made : (p : PartyId) (left : List (Step T)) (old : WorldState T) (trace : List (Entry T)) (new : WorldState T) → Stands old
      → RanTo (Step.Step p ∷ []) left old trace new → left ≡ [] → OneMade p old trace new
  one_made p left old trace new before ran used =
      let s = before.configuration in
      let r = ran s before.stands in
      let m : Moment T = moment_of old s in
      let made : r.made ≡ Step.Step p ∷ [] = made_all (Step.Step p) r.made left r.first used in
      let run = r.run in
      let o = only m (moment_of new r.last) (Step.Step p) trace run.moments
      (subst (λ (l : List (Step T)). EachStep LeadsBy m l trace run.moments) made run.each) run.ends in
      let all : RanTo (Step.Step p ∷ []) [] old trace new =
      subst (λ (l : List (Step T)). RanTo (Step.Step p ∷ []) l old trace new) used ran in
      record {
        entry = o.entry;
        entries = o.entries;
        ran = subst (λ (l : List (Entry T)). RanTo (Step.Step p ∷ []) [] old l new) o.entries all;
        goes_on = λ silent. still_at_work (name_state_of old) s p o.entry (name_state_of new) r.last o.by.made silent;
      }

  -- one that stopped: nothing was made, and it is refused
  pub record NoneMade (p : PartyId) (old : WorldState T) (trace : List (Entry T)) (why : WorldRefusal) (new : WorldState T) : Type 0 where
    pub ran : RanTo (Step.Step p ∷ []) (Step.Step p ∷ []) old [] new
    pub reason : MayRefuseStep (name_state_of new) (Step.Step p) why

  pub none_made : (p : PartyId) (left : List (Step T)) (old : WorldState T) (trace : List (Entry T)) (stopped : Stopped) (new : WorldState T)
      → Stands old → RanTo (Step.Step p ∷ []) left old trace new → StopsAt (name_state_of new) left (length trace) (Some stopped)
      → NoneMade p old trace stopped.why new
  none_made p [] old trace stopped new before ran stops = absurd stops
  none_made p (y ∷ ys) old trace stopped new before ran stops =
      let x : Step T = Step.Step p in
      let r = ran before.configuration before.stands in
      let m : Moment T = moment_of old before.configuration in
      let f = first_of x y r.made ys r.first in
      let last : Moment T = moment_of new r.last in
      let no : trace ≡ [] = none m last trace (subst (λ (l : List (Step T)). IsRun LeadsBy m l trace last) f.0 r.run) in
      let same : RanTo (x ∷ []) (x ∷ []) old trace new = subst (λ (l : List (Step T)). RanTo (x ∷ []) l old trace new) f.1 ran in
      let it : y ≡ x = cc f.1 in
      record {
        ran = subst (λ (l : List (Entry T)). RanTo (x ∷ []) (x ∷ []) old l new) no same;
        reason = subst (λ (z : Step T). MayRefuseStep (name_state_of new) z stopped.why) it stops.1;
      }

  -- ---- the run so far

  pub silent_more : (es : List (Entry T)) (e : Entry T) → AreSilent es → e.reply ≡ None → AreSilent (es ++ e ∷ [])
  silent_more [] e h k = (k, tt)
  silent_more (f ∷ es) e h k = (h.0, silent_more es e h.1 k)

  pub silent_ends : (es : List (Entry T)) (stopped : Option Stopped) → AreSilent es → EndsWithAnswer es stopped
  silent_ends [] stopped h = tt
  silent_ends (e ∷ es) stopped h = (rw h.0 tt, silent_ends es stopped h.1)

  pub answer_ends : (es : List (Entry T)) (e : Entry T) → AreSilent es → EndsWithAnswer (es ++ e ∷ []) None
  answer_ends [] e h = (every e.reply (refl, refl), tt)
  answer_ends (f ∷ es) e h = (rw h.0 tt, answer_ends es e h.1)

  silent_of : (o : Option (Reply T)) → false ≡ is_some o → o ≡ None
  silent_of None e = refl
  silent_of (Some r) e = absurd (cc e)

  pub not_silent : (es : List (Entry T)) (e : Entry T) → true ≡ is_some e.reply → AreSilent (es ++ e ∷ []) → ⊥
  not_silent [] e t h = cc (t ∙ ap (λ (o : Option (Reply T)). is_some o) h.0)
  not_silent (f ∷ es) e t h = not_silent es e t h.1

  -- one more step of the party
  pub party_more : (p : PartyId) (n : ℕ) (f : WorldState T) (trace : List (Entry T)) (g : WorldState T) (answered : Bool) (after : List (Entry T))
      (h : WorldState T) → RanTo (replicate n (Step.Step p)) [] f trace g → StepsOnce p (view_of g) trace answered after (view_of h)
      → RanTo (replicate (n + 1) (Step.Step p)) [] f after h
  party_more p n f trace g answered after h so_far once =
      let x : Step T = Step.Step p in
      let both : RanTo (replicate n x ++ x ∷ []) [] f (trace ++ once.entry ∷ []) h =
      ran_on (replicate n x) (x ∷ []) [] f g h trace (once.entry ∷ []) so_far once.ran in
      subst (λ (l : List (Step T)). RanTo l [] f after h) (replicate_more n x)
      (subst (λ (t : List (Entry T)). RanTo (replicate n x ++ x ∷ []) [] f t h) (sym once.written) both)

  pub once_silent : (p : PartyId) (g : WorldState T) (trace : List (Entry T)) (after : List (Entry T)) (h : WorldState T)
      → (once : StepsOnce p (view_of g) trace false after (view_of h)) → once.entry.reply ≡ None
  once_silent p g trace after h once = silent_of once.entry.reply once.told

  -- ---- the end of the run

  pub record Ended (p : PartyId) (f : WorldState T) (trace : List (Entry T)) (stopped : Option Stopped) (h : WorldState T) : Type 0 where
    pub ran : RanTo (replicate (steps_asked trace stopped) (Step.Step p)) (refused_of p stopped) f trace h
    pub stops : StopsAt (name_state_of h) (refused_of p stopped) (length trace) stopped

  pub ended_well : (p : PartyId) (n : ℕ) (f : WorldState T) (trace : List (Entry T)) (h : WorldState T) → length trace ≡ n
      → RanTo (replicate n (Step.Step p)) [] f trace h → Ended p f trace None h
  ended_well p n f trace h count so_far = record {
    ran = subst (λ (k : ℕ). RanTo (replicate k (Step.Step p)) [] f trace h) (sym count) so_far;
    stops = refl;
  }

  pub ended_refused : (p : PartyId) (n : ℕ) (f : WorldState T) (trace : List (Entry T)) (g h : WorldState T) (why : WorldRefusal)
      (made : List (Entry T)) (stopped : Option Stopped) (place : ℕ) → length trace ≡ n
      → RanTo (replicate n (Step.Step p)) [] f trace g → RanTo (Step.Step p ∷ []) (Step.Step p ∷ []) g [] h
      → MayRefuseStep (name_state_of h) (Step.Step p) why → made ≡ trace → stopped ≡ Some (record { place = place; why = why })
      → place ≡ length trace → Ended p f made stopped h
  ended_refused p n f trace g h why made stopped place count so_far one reason same stop at =
      let x : Step T = Step.Step p in
      let both : RanTo (replicate n x ++ x ∷ []) (x ∷ []) f (trace ++ []) h =
      ran_on (replicate n x) (x ∷ []) (x ∷ []) f g h trace [] so_far one in
      let steps : replicate n x ++ x ∷ [] ≡ replicate (length trace + 1) x =
      replicate_more n x ∙ ap (λ (k : ℕ). replicate (k + 1) x) (sym count) in
      let ran : RanTo (replicate (length trace + 1) x) (x ∷ []) f trace h =
      subst (λ (l : List (Step T)). RanTo l (x ∷ []) f trace h) steps
      (subst (λ (t : List (Entry T)). RanTo (replicate n x ++ x ∷ []) (x ∷ []) f t h) (append-nil trace) both) in
      subst (λ (o : Option Stopped). Ended p f made o h) (sym stop)
      (subst (λ (t : List (Entry T)). Ended p f t (Some (record { place = place; why = why })) h) (sym same)
      (record { ran = ran; stops = (at, reason) }))
