-- What a layer above may use: nobody is asleep at the start, and no call that is begun leaves anybody asleep.
use Rattle.std.specs.Prelude.{◌≡◌}
use Rattle.channel_world_model.proofs.Words.{ℕ, Option, None, Answer, AwakeIn, refusal, Answers, State, start, Call}
use Rattle.channel_world_model.proofs.LawSteps.{opened_kept, still_awake}

pub start_awake : (T : Type 0) (capacity : Option ℕ) → AwakeIn (start {T = T} capacity)
start_awake T capacity = (opened_kept {T = T} capacity).awake

pub awake_after : {T : Type 0} → (s : State T) (c : Call T) (a : Answer T) → refusal s c ≡ None → AwakeIn s → Answers s c a → AwakeIn a.after
awake_after s c a begun awake answers = still_awake s c a awake begun answers
