-- Other tasks put for those of a call: it is walked as it was.
use Rattle.std.proofs.Common.{◌≡◌, ℕ, zero, suc, map, Option, None, Some, option_map, refl, sym, ap, subst, ◌∙◌}
use Rattle.channel_steps.proofs.every_run.Words.{QueueReply, QueueCall, Deed, taken_off, leaving, nothing_kept, Takes, Heard, Leaves, WorkMakes, ChannelMakes, Leads, Mark, Reply, Purpose, ListenerRef, Stage, Trying, Working, Finished, NextStep, Works, Ends, ListStep, TellReceive, TellStreams, TellSend, TellSends, TakeRoom, TellAll, Insert, Register, Leave, Lower, Count, Load, Raise, DidSo, WalksHaveAnyTasks, deed_by, aim_by, work_by, turn_by, stage_by}
use Rattle.channel_calls.specs.declared.reply.Reply.TheVariants as reply
use Rattle.channel_steps.proofs.every_run.TaskTurns.{ends_alike, told_all_alike, inserted_alike, registered_alike, lowered_alike, loaded_alike, raised_alike, takes_room, answered_alike, kept_alike, takes, marks}

-- what a machine does by one relation, with these tasks, it does with others by another one, by which its deed was done with those
module _ {T W V X Y : Type 0} (put : W → V) (did : Deed T W → X → X → Type 0) (does : Deed T V → Y → Y → Type 0) (s t : X) (u v : Y)
    (deed : (d : Deed T W) → did d s t → does (deed_by put d) u v) (none : t ≡ s → v ≡ u) where
  left : (held : Option ListenerRef) → Leaves did held s t → Leaves does held u v
  left None h = none h
  left (Some held) (names, h) = (map put names, deed (taken_off held.line held.key names) h)

  module _ (m : Mark) (next : Stage (QueueCall T) T W) (r : Option (Reply T)) where
    heard : (a : Purpose T W) (after : QueueCall T) (o : Option (QueueReply T)) → Heard a after o next r → Heard (aim_by put a) after o (stage_by put next) r
    heard a after None (is, e) = (ap (λ (x : Stage (QueueCall T) T W). stage_by put x) is, e)
    heard a after (Some x) h = subst (λ (y : NextStep T V). Takes y (stage_by put next) r) (answered_alike put a x) (takes put _ next r h)

    worked : (w : ListStep T W) → WorkMakes did w s t m next r → WorkMakes does (work_by put w) u v m (stage_by put next) r
    worked (TellReceive e) (names, h, x) = (map put names, deed _ h, marks put _ m r (Works (TellStreams e)) _ refl next x)
    worked (TellStreams e) (names, h, x) = (map put names, deed _ h, marks put _ m r _ _ (ends_alike put e) next x)
    worked (TellSend e) (names, h, x) = (map put names, deed _ h, marks put _ m r _ _ (ends_alike put e) next x)
    worked (TellSends n e) (names, h, x) = (map put names, deed _ h, marks put _ m r _ _ (ends_alike put e) next x)
    worked (TakeRoom n) (turn, h, room, x) = (turn_by put turn, none h, takes_room put n turn room, marks put _ m r turn _ refl next x)
    worked (TellAll line c) (names, h, x) = (map put names, deed _ h, marks put _ m r _ _ (told_all_alike put line c) next x)
    worked (Insert w task) (o, h, x) = (o, deed _ h, marks put _ m r _ _ (inserted_alike put w task o) next x)
    worked (Register w key task) (o, h, x) = (option_map put o, deed _ h, marks put _ m r _ _ (registered_alike put w key o) next x)
    worked (Leave e) (h, x) = (left e.held h, marks put _ m r (Ends e.reply (leaving None e.message)) _ refl next x)
    worked (Lower side key) (n, h, x) = (n, deed _ h, marks put _ m r _ _ (lowered_alike put side key n) next x)
    worked (Count side) (n, h, x) = (n, deed _ h, marks put _ m r (Ends (reply.Count n) nothing_kept) _ refl next x)
    worked (Load side making) (n, h, x) = (n, deed _ h, marks put _ m r _ _ (loaded_alike put side making n) next x)
    worked (Raise side n making) (b, h, x) = (b, deed _ h, marks put _ m r _ _ (raised_alike put side making b) next x)

    pub made_so : (at : Stage (QueueCall T) T W) → ChannelMakes did at s t m next r → ChannelMakes does (stage_by put at) u v m (stage_by put next) r
    made_so (Trying call a) (after, o, h, e, x) = (after, o, deed _ h, e, heard a after o x)
    made_so (Working w) h = worked w h
    made_so (Finished kept) (h, e, f, n) = (none h, e, ap (λ (x : Stage (QueueCall T) T W). stage_by put x) f, n)

module _ {T W V X : Type 0} (put : W → V) (did : Deed T W → X → X → Type 0) where
  step : (s t : X) (m : Mark) (next : Stage (QueueCall T) T W) (r : Option (Reply T)) (at : Stage (QueueCall T) T W) → ChannelMakes did at s t m next r
      → ChannelMakes (DidSo put did) (stage_by put at) s t m (stage_by put next) r
  step s t m next r at h = made_so put did (DidSo put did) s t s t (λ d h. (d, refl, h)) (λ e. e) m next r at h

  leads : (n : ℕ) (s : X) (a : Stage (QueueCall T) T W) (t : X) (b : Stage (QueueCall T) T W) → Leads did n s a t b → Leads (DidSo put did) n s (stage_by put a) t (stage_by put b)
  leads zero s a t b (e, f) = (e, ap (λ (x : Stage (QueueCall T) T W). stage_by put x) f)
  leads (suc n) s a t b (x, y, m, h, path) = (x, stage_by put y, m, step s x m y None a h, leads n x y t b path)

  pub walks_have_any_tasks : WalksHaveAnyTasks put did
  walks_have_any_tasks turn s r kept t (a, start, (n, x, b, m, c, path, h, is)) = (
    stage_by put a,
    takes put turn a None start,
    (n, x, stage_by put b, m, stage_by put c, leads n s a x b path, step x t m c (Some r) b h, is ∙ sym (kept_alike put c)),
  )
