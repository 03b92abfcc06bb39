-- No call by names asks its listener before it tries, but a stream's poll.
use Rattle.std.specs.Prelude.{◌≡◌}
use Rattle.channel_world_runs.proofs.Words.{false, refl, ChannelAsk, at, Call, Waiter, Op, Stream, asks_first, asks, held_of, names_of, NameTable}
use Rattle.channel_world_runs.proofs.AskFacts.{of_polls, of_refused, of_given_up, of_dropped, of_cloned, of_upgraded}

module _ {T : Type 0} where
  abbrev Tries : ChannelAsk T Waiter → Type 0
  Tries a = asks_first a ≡ false

  pub tries_first : (r : NameTable T) (c : Call T) → asks_first (asks r c) ≡ false
  tries_first r (Call.Poll op) = of_polls Tries refl (λ m key w. refl) refl (λ key w. refl) (λ key w. refl) (held_of r (Op op)) op (at op.0 (names_of r).operations)
  tries_first r (Call.PollRefused op) = of_refused Tries refl (λ line m key. refl) (held_of r (Op op)) (at op.0 (names_of r).operations)
  tries_first r (Call.GiveUp op) = of_given_up Tries refl (λ line m key. refl) (held_of r (Op op)) (at op.0 (names_of r).operations)
  tries_first r (Call.Drop handle) = of_dropped Tries refl refl (λ key. refl) refl (held_of r (Stream handle)) (at handle.0 (names_of r).handles)
  tries_first r (Call.TryClone handle new) = of_cloned Tries refl (λ side. refl) (at handle.0 (names_of r).handles)
  tries_first r (Call.Upgrade weak new) = of_upgraded Tries refl (λ side. refl) (at weak.0 (names_of r).handles)
  tries_first r c = refl
