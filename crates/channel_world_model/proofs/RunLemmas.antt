-- Runs of calls, one after another.
use Rattle.std.specs.Prelude.{◌≡◌, ◌∷◌, ◌++◌}
use Rattle.channel_world_model.proofs.Words.{nat_tests, arith, List, [], Option, Some, None, true, false, nat_lt, length, slice_index_or, refl, sym, subst, append_assoc, append-nil, ◌∙◌, inr, State, refusal, Answers, Runs, Stops, MayStop, Call, Done, WorldRefusal}
use Rattle.channel_world_model.specs.declared.refusal.WorldRefusal.TheVariants.{NoMemory}

-- what follows from s and these calls follows, after what is done, from the first state and all calls
pub record GoesOn {T : Type 0} (first : State T) (all : List (Call T)) (done : List (Done T)) (s : State T) (calls : List (Call T)) : Type 0 where
  pub on : (ds : List (Done T)) (why : Option WorldRefusal) (rest : List (Call T)) (t : State T) → Runs s calls ds why rest t → Runs first all (done ++ ds) why rest t

pub goes_on_first : {T : Type 0} (s : State T) (calls : List (Call T)) → GoesOn s calls [] s calls
goes_on_first s calls = record { on = λ ds why rest t h. h }

pub goes_on : {T : Type 0} {first s mid : State T} {all calls : List (Call T)} {done : List (Done T)} (c : Call T) (d : Done T) → GoesOn first all done s (c ∷ calls) → refusal s c ≡ None
    → Answers s c (record { after = mid; reply = d.reply; woken = d.woken.items }) → GoesOn first all (done ++ d ∷ []) mid calls
goes_on {T} {first} {s} {mid} {all} {calls} {done} c d g e a = record {
  on = λ ds why rest t h. rw append_assoc (g.on (d ∷ ds) why rest t (mid, (e, a), h));
}

-- the call in front may stop the list
pub stop_in_front : {T : Type 0} (s : State T) (calls : List (Call T)) (c : Call T) (why : WorldRefusal) → true ≡ nat_lt 0 (length calls) → c ≡ slice_index_or calls 0 c → MayStop s c (Some why) → Stops s calls (Some why)
stop_in_front s [] c why e p m = absurd (cc e)
stop_in_front s (x ∷ xs) c why e p m = subst (λ (y : Call _). MayStop s y (Some why)) p m

pub stop_at_end : {T : Type 0} (s : State T) (calls : List (Call T)) → false ≡ nat_lt 0 (length calls) → Stops s calls None
stop_at_end s [] e = refl
stop_at_end s (x ∷ xs) e = absurd (grind (arith, nat_tests))

pub run_ends : {T : Type 0} {first s : State T} {all calls : List (Call T)} {done done' : List (Done T)} (why : Option WorldRefusal) → GoesOn first all done s calls → Stops s calls why → done' ≡ done → Runs first all done' why calls s
run_ends {T} {first} {s} {all} {calls} {done} {done'} why g h e =
    rw (e, ← append-nil done) (g.on [] why calls s (refl, refl, h))

pub goes_on_by : {T : Type 0} {first s mid : State T} {all calls rest : List (Call T)} {done done' : List (Done T)} (c : Call T) (d : Done T) → GoesOn first all done s calls → calls ≡ c ∷ rest → refusal s c ≡ None
    → Answers s c (record { after = mid; reply = d.reply; woken = d.woken.items }) → done' ≡ done ++ d ∷ [] → GoesOn first all done' mid rest
goes_on_by {T} {first} {s} {mid} {all} {calls} {rest} {done} {done'} c d g e r a f =
    subst (λ (ds : List (Done T)). GoesOn first all ds mid rest) (sym f) (goes_on c d (subst (λ (cs : List (Call T)). GoesOn first all done s cs) e g) r a)

pub goes_on_empty : {T : Type 0} (s : State T) (calls : List (Call T)) (done : List (Done T)) → done ≡ [] → GoesOn s calls done s calls
goes_on_empty {T} s calls done e = subst (λ (ds : List (Done T)). GoesOn s calls ds s calls) (sym e) (goes_on_first s calls)

-- a call in front got no room
pub run_ends_full : {T : Type 0} {first s t : State T} {all calls rest rest' : List (Call T)} {done done' : List (Done T)} (c : Call T) → GoesOn first all done s calls → calls ≡ c ∷ rest → refusal s c ≡ None → done' ≡ done → rest' ≡ c ∷ rest → t ≡ s → Runs first all done' (Some NoMemory) rest' t
run_ends_full {T} {first} {s} {t} {all} {calls} {rest} {rest'} {done} {done'} c g e r d f h =
    rw (d, ← append-nil done) (g.on [] (Some NoMemory) rest' t (f ∙ sym e, h, rw e (inr (r, refl))))
