-- An answer that is not ample says so in its reply.
use Rattle.std.specs.Prelude.{◌≡◌}
use Rattle.channel_world.proofs.Words.{inl, inr, ℕ, true, false, Err, refl, Ready, State, Answer, answer, Lack, memory, serials, refused, Answers, Call, wants_growth, Reply}
use Rattle.channel_world_model.proofs.Lacking.{Lacking, lacking}

abbrev Wants : Call ℕ → Answer ℕ → Type 0
Wants c a = wants_growth a.reply ≡ true

wants_send : (lack : Lack) → wants_growth (Reply.SendPoll (Ready (Err (refused lack)))) ≡ true
wants_send memory = refl
wants_send serials = refl

wants_recv : (lack : Lack) → wants_growth (Reply.RecvPoll (Ready (Err (refused lack)))) ≡ true
wants_recv memory = refl
wants_recv serials = refl

all_want : (s : State ℕ) → Lacking s Wants
all_want s = record {
  try_send = λ sender m. refl;
  force_send = λ sender m. refl;
  recv_many = λ receiver limit. refl;
  leaves = λ op handle m there. refl;
  send_out = λ lack op handle m there full. wants_send lack;
  recv_out = λ lack op handle there none. wants_recv lack;
  closing_out = λ lack op handle there. refl;
  next_out = λ lack receiver none. refl;
}

-- an answer that wants no growth is that of ample memory
pub is_ample : (s : State ℕ) (c : Call ℕ) (x : Answer ℕ) → Answers s c x → wants_growth x.reply ≡ false → x ≡ answer s c
is_ample s c x (inl same) w = same
is_ample s c x (inr l) w = let e : wants_growth x.reply ≡ true = lacking s Wants (all_want s) l.0 c x l.1 in cc
