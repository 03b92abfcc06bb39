-- What a step of a party leads to, with the parties before it and after it.
use Rattle.std.proofs.Common.{◌≡◌, ℕ, zero, suc, ◌<◌, ◌==◌, Bool, true, false, if◌then◌else◌, List, [], ◌∷◌, ◌++◌, map, length, slice_get, None, Some, refl, sym, ap, ◌∙◌, subst}
use Rattle.channel_steps.proofs.every_run.Words.{QueueCall, Woken, Parts, ChannelAsk, Stage, HasBegun, Next, NextConfiguration, HasRange, IsRun, Configuration, OthersQuiet, Represents, StepsAt, HasParty, ActiveCall, ActiveCallWitness, active_call_of, Entry, Party, Step, IsInRange, Touches, blocks_after, MergeMoment, NextMoment, left_to, IsIdle}
use Rattle.concurrent_queue.proofs.Callers.{AllApart, is_same, is_other, none_has, place_of}
use Rattle.channel_steps.specs.every_run.Bridge.{id_of, stage_of}
use Rattle.channel_steps.specs.declared.run.Step.TheVariants as step
use Rattle.channel_steps.proofs.Interface.{blocks_begun, run_seen}
use Rattle.channel_steps.proofs.MoveFacts.{in_range}
use Rattle.channel_steps.proofs.RunFacts.{next_range}

module _ {T W : Type 0} where
  -- which is at one place
  at_one_place : (p : ℕ) (xs : List (Party T W)) → AllApart id_of stage_of xs → (k : ℕ) (x : Party T W) → slice_get xs k ≡ Some x → x.id ≡ p → k ≡ place_of id_of stage_of p xs
  at_one_place p [] apart k x there his = absurd cc
  at_one_place p (y ∷ ys) apart k x there his = by (at_one_place p ys apart.1) (y.id == p) refl k there where
    by : ((j : ℕ) (z : Party T W) → slice_get ys j ≡ Some z → z.id ≡ p → j ≡ place_of id_of stage_of p ys) → (b : Bool) → (y.id == p) ≡ b
        → (j : ℕ) → slice_get (y ∷ ys) j ≡ Some x → j ≡ (if b then 0 else suc (place_of id_of stage_of p ys))
    by more true e zero h = refl
    by more true e (suc j) h = absurd (none_has id_of stage_of y.id ys apart.0 j x h (his ∙ sym (is_same y.id p e)))
    by more false e zero h = absurd (is_other y.id p e (let same : y ≡ x = cc in ap id_of same ∙ his))
    by more false e (suc j) h = ap (λ (n : ℕ). suc n) (more j x h his)

  -- a call under way is that of the party at its place
  party_at : (xs : List (ActiveCallWitness T W)) (k : ℕ) (u : ActiveCall T W) → slice_get (map active_call_of xs) k ≡ Some u
      → (x : Party T W) × (slice_get (map (λ (y : ActiveCallWitness T W). y.party) xs) k ≡ Some x) × (x.id ≡ u.party)
  party_at [] k u e = absurd cc
  party_at (x ∷ xs) zero u e = (x.party, refl, (let same : active_call_of x ≡ u = cc in ap (λ (v : ActiveCall T W). v.party) same))
  party_at (x ∷ xs) (suc k) u e = party_at xs k u e

  only_one : (p : ℕ) (parts : Parts T W) (parties : List (Party T W)) (s : Configuration T W) → Represents parts parties s → AllApart id_of stage_of parties
      → (k : ℕ) (u : ActiveCall T W) → slice_get s.under_way k ≡ Some u → u.party ≡ p → k ≡ place_of id_of stage_of p parties
  only_one p parts parties s sh apart k u there his =
      let x = party_at sh.witnesses k u (subst (λ (us : List (ActiveCall T W)). slice_get us k ≡ Some u) sh.under_way there) in
      at_one_place p parties apart k x.0 (subst (λ (ps : List (Party T W)). slice_get ps k ≡ Some x.0) (sym sh.parties_are) x.1) (x.2 ∙ his)

module _ {T W S : Type 0} where
  abbrev pub at : Parts T W × S → List (Party T W) → Configuration T W → MergeMoment T W S
  at c parties s = record { parts = c.0; parties = parties; configuration = s; sink = c.1 }

  -- where the others of a call are quiet, a step that doesn't end it leaves it fewer steps
  abbrev pub Nearer : (m : MergeMoment T W S) (x : Step T W) (e : Entry T) (names : List W) (n : MergeMoment T W S) → Next m.configuration x e names n.configuration → Type 0
  Nearer m (step.Begin p ask) e names n next = Unit {0}
  Nearer m (step.Step p) e names n next =
      e.reply ≡ None → OthersQuiet m.configuration.now (next.before ++ next.behind) → left_to (length next.before) n < left_to (length next.before) m

  -- a party that begins a call has none under way
  abbrev pub MayBegin : MergeMoment T W S → Step T W → Type 0
  MayBegin m (step.Begin p ask) = IsIdle p m.configuration
  MayBegin m (step.Step p) = Unit {0}

  -- the call that makes the step is the only one of its party
  abbrev pub Only : (m : MergeMoment T W S) (x : Step T W) (e : Entry T) (names : List W) (n : MergeMoment T W S) → Next m.configuration x e names n.configuration → Type 0
  Only m (step.Begin p ask) e names n next = Unit {0}
  Only m (step.Step p) e names n next =
      (k : ℕ) (u : ActiveCall T W) → slice_get m.configuration.under_way k ≡ Some u → u.party ≡ p → k ≡ length next.before

module _ {T W S : Type 0} (wakes : S → W → S → Type 0) where
  pub record Leads (m : MergeMoment T W S) (x : Step T W) (e : Entry T) (n : MergeMoment T W S) : Type 0 where
    pub begins : MayBegin m x
    pub names : List W
    pub touches : Touches x m.parts n.parts
    pub blocks : n.configuration.blocks ≡ blocks_after n.parts.cells.form m.configuration.blocks m.parts.cells n.parts.cells
    pub next : Next m.configuration x e names n.configuration
    pub woken : Woken wakes m.sink names n.sink
    pub shows : Represents n.parts n.parties n.configuration
    pub nearer : Nearer m x e names n next
    pub only : Only m x e names n next

  -- so it does from each configuration that the cells and the parties show
  pub record StepLed (c : Parts T W × S) (parties : List (Party T W)) (s : Configuration T W) (x : Step T W) (e : Entry T) (d : Parts T W × S) (after : List (Party T W)) : Type 0 where
    pub configuration : Configuration T W
    pub leads : Leads (at c parties s) x e (at d after configuration)

  abbrev pub StepLeadsOn : Parts T W × S → List (Party T W) → Step T W → Entry T → Parts T W × S → List (Party T W) → Type 0
  StepLeadsOn c parties x e d after = (s : Configuration T W) → IsInRange s.now.queue → Represents c.0 parties s → StepLed c parties s x e d after

  pub leads_begun : (p : ℕ) (ask : ChannelAsk T W) (c : Parts T W × S) (parties : List (Party T W)) (e : Entry T) (after : List (Party T W))
      → ((s : Configuration T W) → Represents c.0 parties s → IsIdle p s) → HasBegun p ask parties e after → StepLeadsOn c parties (step.Begin p ask) e c after
  leads_begun p ask c parties e after idle begun s range sh =
      let b = begun c.0 s sh in
      record {
        configuration = b.after;
        leads = record { begins = idle s sh; names = []; touches = refl; blocks = blocks_begun c.0 parties s b.after sh b.begins.blocks; next = (b.begins, refl); woken = refl; shows = b.shown; nearer = tt; only = tt };
      }

  pub leads_stepped : (p : ℕ) (c : Parts T W × S) (parties : List (Party T W)) (e : Entry T) (d : Parts T W × S) (after : List (Party T W))
      → AllApart id_of stage_of parties → (let k = place_of id_of stage_of p parties in HasParty p parties k × StepsAt wakes c.0 parties k c.1 e d.0 after d.1)
      → StepLeadsOn c parties (step.Step p) e d after
  leads_stepped p c parties e d after apart (has, steps) s range sh =
      let h = steps s (record { id = p; call = has.0 }) range sh has.1 in
      let near = h.steps in
      let m : MergeMoment T W S = at c parties s in
      let n : MergeMoment T W S = at d after h.after in
      record {
        configuration = h.after;
        leads = record {
          begins = tt;
          names = h.names;
          touches = h.one_place;
          blocks = h.blocks;
          next = near.step;
          woken = h.woken;
          shows = h.shown;
          nearer = λ goes_on hold. subst (λ (j : ℕ). left_to j n < left_to j m) (sym near.place) (near.nearer goes_on hold);
          only = λ k u there his. only_one p c.0 parties s sh apart k u there his ∙ sym near.place;
        };
      }

  -- ---- many steps

  -- these steps lead from a configuration to a last one, by these moments
  pub record Through (xs : List (Step T W)) (es : List (Entry T)) (c : Parts T W × S) (parties : List (Party T W)) (s : Configuration T W) (last : Parts T W × S) (left : List (Party T W)) : Type 0 where
    pub end : Configuration T W
    pub run : IsRun Leads (at c parties s) xs es (at last left end)
    pub shown : Represents last.0 left end

  -- from each configuration that is shown
  abbrev pub GoThrough : List (Step T W) → List (Entry T) → Parts T W × S → List (Party T W) → Parts T W × S → List (Party T W) → Type 0
  GoThrough xs es c parties last left =
      (s : Configuration T W) → HasRange (length xs) s.now.queue → Represents c.0 parties s → Through xs es c parties s last left

  pub through_none : (c : Parts T W × S) (parties : List (Party T W)) (last : Parts T W × S) → last ≡ c → GoThrough [] [] c parties last parties
  through_none c parties last same s range sh =
      record {
        end = s;
        run = record { moments = []; each = tt; ends = ap (λ (x : Parts T W × S). at x parties s) (sym same) };
        shown = subst (λ (x : Parts T W × S). Represents x.0 parties s) (sym same) sh;
      }

  pub through_more : (x : Step T W) (xs : List (Step T W)) (e : Entry T) (es : List (Entry T)) (c : Parts T W × S) (parties : List (Party T W)) (d : Parts T W × S) (after : List (Party T W)) (last : Parts T W × S) (left : List (Party T W))
      → StepLeadsOn c parties x e d after → GoThrough xs es d after last left → GoThrough (x ∷ xs) (e ∷ es) c parties last left
  through_more x xs e es c parties d after last left one more s range sh =
      let h = one s (in_range (suc (length xs)) s.now.queue range) sh in
      let g = more h.configuration (next_range (length xs) s x e h.leads.names h.configuration h.leads.next range) h.leads.shows in
      record {
        end = g.end;
        run = record { moments = at d after h.configuration ∷ g.run.moments; each = (h.leads, g.run.each); ends = g.run.ends };
        shown = g.shown;
      }

  -- each of them is a step of a run, from moment to moment and from configuration to configuration
  pub next_moment : (m : MergeMoment T W S) (x : Step T W) (e : Entry T) (n : MergeMoment T W S) → Leads m x e n → NextMoment wakes m x e n
  next_moment m x e n l = record { names = l.names; next = l.next; woken = l.woken; touches = l.touches }

  pub configurations_of : (m : MergeMoment T W S) (xs : List (Step T W)) (es : List (Entry T)) (n : MergeMoment T W S) → IsRun Leads m xs es n
      → IsRun NextConfiguration m.configuration xs es n.configuration
  configurations_of m xs es n run = run_seen Leads (λ (k : MergeMoment T W S). k.configuration) NextConfiguration (λ a x e b l. (l.names, l.next)) m xs es n run
