-- Accounts: over a step, over a run, and one after the other.
use Rattle.std.specs.Prelude.{◌≡◌, ◌++◌}
use Rattle.channel_world_runs.proofs.Words.{List, [], sym, ap, ◌∙◌, append-nil, append_assoc, Channel, Waiter, Accounts, IsRun, Next, NextConfiguration, Configuration, gone_by, came_by, ChannelEntry, ChannelStep, run_keeps}

module _ {T : Type 0} where
  pub no_accounts : (s : Configuration T Waiter) → Accounts s s
  no_accounts s = record {
    out = [];
    into = [];
    gone = sym (append-nil s.gone);
    came = sym (append-nil s.came);
    held = sym (append-nil s.now.queue.items);
  }

  -- two accounts, one after the other
  both : (s m t : Configuration T Waiter) (out into : List T) → Accounts s m → t.gone ≡ m.gone ++ out → t.came ≡ m.came ++ into
      → out ++ t.now.queue.items ≡ m.now.queue.items ++ into → Accounts s t
  both s m t out into h e f k =
      record {
        out = h.out ++ out;
        into = h.into ++ into;
        gone = e ∙ (ap (λ (vs : List T). vs ++ out) h.gone ∙ append_assoc s.gone h.out out);
        came = f ∙ (ap (λ (vs : List T). vs ++ into) h.came ∙ append_assoc s.came h.into into);
        held = append_assoc h.out out t.now.queue.items
            ∙ (ap (λ (vs : List T). h.out ++ vs) k
            ∙ (sym (append_assoc h.out m.now.queue.items into)
            ∙ (ap (λ (vs : List T). vs ++ into) h.held ∙ append_assoc s.now.queue.items h.into into)));
      }

  pub accounts_both : (s m t : Configuration T Waiter) → Accounts s m → Accounts m t → Accounts s t
  accounts_both s m t h k = both s m t k.out k.into h k.gone k.came k.held

  -- a step
  pub next_accounts : (s m t : Configuration T Waiter) (x : ChannelStep T Waiter) (e : ChannelEntry T) (names : List Waiter) → Accounts s m
      → Next m x e names t → Accounts s t
  next_accounts s m t (ChannelStep.Begin p a) e names h n =
      both s m t [] [] h (n.0.gone ∙ sym (append-nil m.gone)) (n.0.came ∙ sym (append-nil m.came))
      (ap (λ (d : Channel T Waiter). d.queue.items) n.0.now ∙ sym (append-nil m.now.queue.items))
  next_accounts s m t (ChannelStep.Step p) e names h n =
      both s m t (gone_by e.mark m.now.queue.items) (came_by e.mark n.mine.ask) h n.gone n.came n.held

  -- a run
  pub run_accounts : (s t : Configuration T Waiter) (xs : List (ChannelStep T Waiter)) (es : List (ChannelEntry T)) → IsRun NextConfiguration s xs es t
      → Accounts s t
  run_accounts s t xs es run =
      run_keeps NextConfiguration (λ u. Accounts s u) (λ a x e b n h. next_accounts s a b x e n.0 h n.1) s xs es t run (no_accounts s)
