-- What layers above may use: of a channel with no call under way, of what leads on from one configuration to another, how few steps
-- are left to the calls under way, that each party has one call, and what is owed to those that are pending, and
-- that only sends bring messages.
use Rattle.std.specs.Prelude.{◌≡◌, ◌∷◌, ◌++◌}
use Rattle.channel_world_runs.proofs.Lemmas.{false, List, [], None, subst, Reply, Call, Waiter, asks_first, ActiveCall, Configuration, Led, LeadsOn, Stands, WorldInvariant, AllTry, NamesKept, Owed, All, status, step_refusal, NameState, Moment, LeadsBy, observation_at, Entry, PartyId, WorldState, Step, no_accounts, accounts_both, no_way, ways_on}
pub use Rattle.channel_world_runs.proofs.WorldStateFacts.{few_in}
use Rattle.channel_world_runs.proofs.LeftFacts as left_facts
pub use Rattle.channel_world_runs.proofs.LeftFacts.{nobody_still}
pub use Rattle.channel_world_runs.proofs.LoneFacts.{none_under_way, no_agents}
use Rattle.channel_world_runs.proofs.OwnerRuns.{idle_and_free}
use Rattle.channel_world_runs.proofs.OwnerTogether.{all_right}
use Rattle.channel_world_runs.proofs.ObservationFacts as observation_facts
pub use Rattle.channel_world_runs.proofs.ReachesFacts.{ran_leads}

module _ {T : Type 0} where
  -- a call under way asks no listener before it tries
  pub tries_at : (b : NameState T) (s : Configuration T Waiter) (before : List (ActiveCall T Waiter)) (u : ActiveCall T Waiter) (behind : List (ActiveCall T Waiter)) → WorldInvariant b s → s.under_way ≡ before ++ u ∷ behind
      → asks_first u.ask ≡ false
  tries_at b s before u behind kept there =
      (all_right (λ (v : ActiveCall T Waiter). asks_first v.ask ≡ false) before (u ∷ behind) (subst AllTry there kept.tries)).0

  -- nothing done leads on
  pub leads_nowhere : (f : WorldState T) → LeadsOn f [] f
  leads_nowhere f s k = record { last = s; way = no_way s; stands = k; accounts = no_accounts s }

  -- and so does, from one configuration, one thing done after another
  pub led_further : (g h : WorldState T) (s : Configuration T Waiter) (rs ss : List (Reply T)) → Led s rs g → LeadsOn g ss h → Led s (rs ++ ss) h
  led_further g h s rs ss m second =
      let t = second m.last m.stands in
      record {
        last = t.last;
        way = ways_on s m.last t.last rs ss m.way t.way;
        stands = t.stands;
        accounts = accounts_both s m.last t.last m.accounts t.accounts;
      }

  -- so it is from each configuration
  pub leads_on : (f g h : WorldState T) (rs ss : List (Reply T)) → LeadsOn f rs g → LeadsOn g ss h → LeadsOn f (rs ++ ss) h
  leads_on f g h rs ss first second s k = led_further g h s rs ss (first s k) second

  -- what stood, stands
  pub stands_led : (f g : WorldState T) (rs : List (Reply T)) → Stands f → LeadsOn f rs g → Stands g
  stands_led f g rs before leads =
      let t = leads before.configuration before.stands in
      record { configuration = t.last; stands = t.stands }

  -- in a step, no call that began before that of the party that makes it is of this party
  pub none_before : (m : Moment T) (p : PartyId) (e : Entry T) (n : Moment T) → WorldInvariant m.name_state m.configuration → (l : LeadsBy m (Step.Step p) e n)
      → All (λ (u : ActiveCall T Waiter). u.party ≡ p.0 → ⊥) l.made.next.before
  none_before m p e n k l = left_facts.apart m.name_state m.configuration k.owned p.0 _ e.woken.items n.configuration l.made.next

  -- and a party that may begin a call has none under way
  pub none_of : (b : NameState T) (s : Configuration T Waiter) (p : PartyId) (c : Call T) → WorldInvariant b s
      → step_refusal b.name_table b.agents (Step.Begin p c) ≡ None → All (λ (u : ActiveCall T Waiter). u.party ≡ p.0 → ⊥) s.under_way
  none_of b s p c k fine =
      let idle = idle_and_free p c b fine in left_facts.none_at_work (status b.name_table) p.0 b.agents s.under_way k.owned.together idle.0

  -- what a moment shows, it owes
  pub owed_at : (b : NameState T) (s : Configuration T Waiter) → WorldInvariant b s → Owed (observation_at b s)
  owed_at b s k = observation_facts.owed_at b s k.owned k.woken k.sound

  -- also where polls ask their listeners first
  pub names_owed_at : (b : NameState T) (s : Configuration T Waiter) → NamesKept b s → Owed (observation_at b s)
  names_owed_at b s k = observation_facts.owed_at b s k.owned k.woken k.sound
