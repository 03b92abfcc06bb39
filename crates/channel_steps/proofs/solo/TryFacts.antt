-- What one call of the queue gives where nobody else is at work.
use Rattle.channel_steps.proofs.solo.Words.{◌≡◌, ℕ, ◌+◌, true, false, [], None, Some, Ok, ◌⊎◌, inl, inr, refl, ap, ◌∙◌, zero, suc, arith, Contents, Queue, Phase, asked, marked, after, Continues, Answers, Fits, QueueAsk, QueueMark, QueueReply, shows, IsIdle, Comes, did, Finds, Does, does}
use Rattle.concurrent_queue.specs.declared.call.QueueReply.TheVariants as answer

module _ {T : Type 0} where
  pub idle : (c : Contents T) (q : Queue T) → Fits c q [] → IsIdle q
  idle c q fits = let sh = shows c q [] fits in record { balanced = sh.balance; nothing_comes = (sh.at_rest refl).1 }

  pub tries_start : (q : Queue T) (a : QueueAsk T) → Comes q q (asked a)
  tries_start q a = (a, zero, (refl, refl))

  pub tries_on : (q0 q : Queue T) (f g : Phase T) (m : QueueMark) → Continues q f m g → Comes q0 q f → Comes q0 (after f m q) g
  tries_on q0 q f g m goes (a, n, leads) = (a, suc n, (q, f, m, leads, goes, refl))

  -- ---- the answer

  abbrev pub brought_by : QueueReply T → ℕ
  brought_by (answer.Push (Ok u)) = 1
  brought_by (answer.Force (Ok d)) = 1
  brought_by _ = 0

  pub brought_by_is : (x : QueueReply T) → (brought_by x ≡ 0) ⊎ (brought_by x ≡ 1)
  brought_by_is (answer.Push (Ok u)) = inr refl
  brought_by_is (answer.Force (Ok d)) = inr refl
  brought_by_is x = inl refl

  -- the queue that it leaves
  abbrev pub left_by : QueueAsk T → QueueReply T → Queue T → Queue T
  left_by a x q = marked a false (did x) q

  counts : (a : QueueAsk T) (x : QueueReply T) (q : Queue T) → ((left_by a x q).accepted ≡ q.accepted + brought_by x) × ((left_by a x q).capacity ≡ q.capacity) × ((left_by a x q).coming ≡ q.coming)
  counts a (answer.Push (Ok u)) q = (refl, refl, refl)
  counts a (answer.Force (Ok None)) q = (refl, refl, refl)
  counts a (answer.Force (Ok (Some d))) q = (refl, refl, refl)
  counts a (answer.Pop (Ok v)) q = (omega arith, refl, refl)
  counts a (answer.Close true) q = (omega arith, refl, refl)
  counts a x q = (omega arith, refl, refl)

  -- what a try gave that has ended
  pub record Found (q0 : Queue T) (a : QueueAsk T) (x : QueueReply T) (q : Queue T) : Type 0 where
    pub finds : Finds a q0 x
    pub left : q ≡ left_by a x q0
    pub accepted : q.accepted ≡ q0.accepted + brought_by x
    pub capacity : q.capacity ≡ q0.capacity
    pub nothing_comes : q.coming ≡ false

  pub tries_end : (q0 q : Queue T) (f : Phase T) (m : QueueMark) (x : QueueReply T) → IsIdle q0 → Answers q f m x → Comes q0 q f → Found q0 f.ask x (after f m q)
  tries_end q0 q f m x i answers h =
      let d : Does q0 q f = does q0 q f i h in
      let l = d.answer m x answers in let k = counts f.ask x q0 in
      record {
        finds = l.0;
        left = l.1;
        accepted = ap (λ (p : Queue T). p.accepted) l.1 ∙ k.0;
        capacity = ap (λ (p : Queue T). p.capacity) l.1 ∙ k.1;
        nothing_comes = ap (λ (p : Queue T). p.coming) l.1 ∙ k.2 ∙ i.nothing_comes;
      }
