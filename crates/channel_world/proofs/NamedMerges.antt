-- A merge whose calls are given names beside their tasks, by names.
use Rattle.std.specs.Prelude.{◌≡◌}
use Rattle.channel_world.proofs.Words.{poll_asked, refusal_asked, Poll, PollRefused, listening_first}
use Rattle.channel_calls.specs.Blocks.{poll_woken}
use Rattle.channel_calls.specs.declared.blocked.Blocked.{Blocked}
use Rattle.channel_calls.specs.declared.blocked.Blocked.TheVariants.{Send, Receive}
use Rattle.channel_steps.specs.every_run.BridgeBlocks.{first_poll, poll_refused}
use Rattle.channel_world_model.proofs.DirectoryLemmas.{at_seen}
use Rattle.channel_world_runs.specs.declared.names.PollState.TheVariants.{Rests, Waits}
use Rattle.channel_world_runs.proofs.OwnerBegins.{key_is}
use Rattle.channel_world.specs.BlocksByNames.{operation_for, StandsFor, PollsByName}
use Rattle.channel_world.proofs.Lemmas.{List, subst, ChannelStep as Step, just_opened, first_name_state, BeginByNames, merges_by_names_are_runs, begins_by_names, Option, None, Some, inr, refl, sym, ap, ◌∙◌, option_map, Key, ChannelAsk, at, HandleId, OpId, Operation, Waiter, Op, asks, key_of, held_of, names_of, OperationEntry, PollState, NameTable}
use Rattle.channel_steps.specs.every_run.Named.{WakesNamed, name_of}
use Rattle.channel_steps.specs.every_run.Tasks.{all_by, parts_by}
use Rattle.channel_world.specs.NamedMerges.{NamedMergesAreRuns, TwoClonesAreNamed}

-- ---- what a call asks that blocks, and what its operation asks by name

module _ {T : Type 0} where
  abbrev asked : Blocked T → HandleId → Option Key → OpId → ChannelAsk T Waiter
  asked b handle key op = poll_asked key op (Some (operation_for b handle))

  -- the operation as one call at a time sees it
  seen : (b : Blocked T) (op : OpId) (r : NameTable T) (s : PollState) (f : StandsFor b s op r)
      → at op.0 (names_of r).operations ≡ Some (operation_for b f.handle)
  seen b op r s f = at_seen (λ (x : OperationEntry T). x.operation) op.0 r.operations ∙ ap (option_map (λ (x : OperationEntry T). x.operation)) f.lives

  holds : (b : Blocked T) (op : OpId) (r : NameTable T) (s : PollState) → StandsFor b s op r → held_of r (Op op) ≡ key_of s
  holds b op r s f = key_is r op _ f.lives

  -- what its poll asks
  poll_asks : (b : Blocked T) (op : OpId) (r : NameTable T) (s : PollState) (f : StandsFor b s op r) → asks r (Poll op) ≡ asked b f.handle (key_of s) op
  poll_asks b op r s f =
      ap (λ (o : Option (Operation T)). poll_asked (held_of r (Op op)) op o) (seen b op r s f)
      ∙ ap (λ (key : Option Key). asked b f.handle key op) (holds b op r s f)

  first_asked : (b : Blocked T) (handle : HandleId) (op : OpId) → asked b handle None op ≡ first_poll b (Op op)
  first_asked (Send m) handle op = refl
  first_asked Receive handle op = refl

  next_asked : (b : Blocked T) (handle : HandleId) (op : OpId) (key : Key) → poll_woken b key (Op op) ≡ listening_first (asked b handle (Some key) op)
  next_asked (Send m) handle op key = refl
  next_asked Receive handle op key = refl

  -- what its refused poll asks
  refusal_of : (b : Blocked T) (handle : HandleId) (key : Key) → refusal_asked (Some key) (Some (operation_for b handle)) ≡ poll_refused b key
  refusal_of (Send m) handle key = refl
  refusal_of Receive handle key = refl

  refused_asks : (b : Blocked T) (op : OpId) (r : NameTable T) (key : Key) → StandsFor b (Waits key) op r
      → asks r (PollRefused op) ≡ poll_refused b key
  refused_asks b op r key f =
      ap (λ (o : Option (Operation T)). refusal_asked (held_of r (Op op)) o) (seen b op r (Waits key) f)
      ∙ (ap (λ (k : Option Key). refusal_asked k (Some (operation_for b f.handle))) (holds b op r (Waits key) f)
      ∙ refusal_of b f.handle key)

pub polls_by_name : (T : Type 0) → PollsByName T
polls_by_name T =
    record {
      first = λ b op r f. poll_asks b op r Rests f ∙ first_asked b f.handle op;
      next = λ b op r key f.
          let same = poll_asks b op r (Waits key) f in
          inr (next_asked b f.handle op key ∙ ap (λ (a : ChannelAsk T Waiter). listening_first a) (sym same));
      refused = refused_asks;
    }

pub named_merges_are_runs : (T W S : Type 0) (wakes : S → W → S → Type 0) → NamedMergesAreRuns T W S wakes
named_merges_are_runs T W S wakes form events given sink last woken named k begins =
    let is = k.headline.is in
    merges_by_names_are_runs T S (WakesNamed wakes) form (all_by name_of k.both.behind) given sink (parts_by name_of k.both.parts) woken k.headline
    (subst (λ (ys : List (Step T Waiter)). BeginByNames (WakesNamed wakes) first_name_state (just_opened form sink) ys is.trace is.run.moments) (sym k.steps) begins)

pub two_clones_are_named : (T W S : Type 0) (wakes : S → W → S → Type 0) → TwoClonesAreNamed T W S wakes
two_clones_are_named T W S wakes form given sink last woken k = begins_by_names (WakesNamed wakes) (just_opened form sink) k.headline.is.trace k.headline.is.run.moments
