-- A walk of a channel's call over cells of any kind, as events.
use Rattle.std.proofs.Common.{◌≡◌, ℕ, zero, suc, List, [], ◌∷◌, ◌++◌, map, Option, None, Some, MatchOption, refl, ap, subst}
use Rattle.concurrent_queue.specs.Bridge as queue
use Rattle.concurrent_queue.specs.Deeds as cell
use Rattle.channel_steps.proofs.every_run.Words.{QueueMark, QueueReply, QueueForm, CallState, QueueCall, kept_by, Deed, mark_of_queue, Heard, Leaves, WorkMakes, ChannelMakes, Leads, Mark, Reply, Purpose, ListenerRef, Stage, Trying, Working, Finished, ListStep, TellReceive, TellStreams, TellSend, TellSends, TakeRoom, TellAll, Insert, Register, Leave, Lower, Count, Load, Raise, StateMakes, Act, on_queue, on_wait_lists, on_nothing, Event, Completed, Notes, Acts, QueueIsWalked, Along, StandsAct, WalksAct}
use Rattle.concurrent_queue.specs.machine.FastPath as cells
use Rattle.concurrent_queue.proofs.Noted as queue_facts
use Rattle.channel_steps.specs.every_run.Bridge.{does}

module _ {T W X : Type 0} (did : Deed T W → X → X → Type 0) (cells_did : cell.Deed T → X → X → Type 0) (form : QueueForm) where
  along_both : (os ps : List (Act T W)) (s m t : X) → Along did cells_did os s m → Along did cells_did ps m t → Along did cells_did (os ++ ps) s t
  along_both [] ps s m t e h = subst (λ (x : X). Along did cells_did ps x t) e h
  along_both (on_queue (Some d) ∷ os) ps s m t (x, h, g) k = (x, h, along_both os ps x m t g k)
  along_both (on_queue None ∷ os) ps s m t g k = along_both os ps s m t g k
  along_both (on_wait_lists d ∷ os) ps s m t (x, h, g) k = (x, h, along_both os ps x m t g k)
  along_both (on_nothing ∷ os) ps s m t g k = along_both os ps s m t g k

  map_both : (os ps : List (Act T W)) (xs : List (Event T W)) → map does os ++ (map does ps ++ xs) ≡ map does (os ++ ps) ++ xs
  map_both [] ps xs = refl
  map_both (o ∷ os) ps xs = ap (λ (ys : List (Event T W)). does o ∷ ys) (map_both os ps xs)

  map_append : (os ps : List (Act T W)) → map does os ++ map does ps ≡ map does (os ++ ps)
  map_append [] ps = refl
  map_append (o ∷ os) ps = ap (λ (ys : List (Event T W)). does o ∷ ys) (map_append os ps)

  -- what is left to show behind a step with this answer
  abbrev Rest : Stage (QueueCall T) T W → Option (Reply T) → List (Event T W) → List (Completed T) → Type 0
  Rest next r xs given = MatchOption r (Acts form (Some next) xs given) (λ x. (more : List (Completed T)) × (given ≡ record { reply = x; kept = kept_by next } ∷ more) × Acts form None xs more)

  abbrev Goes : Stage (QueueCall T) T W → List (Act T W) → Stage (QueueCall T) T W → Option (Reply T) → Type 0
  Goes at os next r = (xs : List (Event T W)) (given : List (Completed T)) → Rest next r xs given → Acts form (Some at) (map does os ++ xs) given

  abbrev Step : Stage (QueueCall T) T W → X → Stage (QueueCall T) T W → Option (Reply T) → X → Type 0
  Step at s next r t = (os : List (Act T W)) × Along did cells_did os s t × Goes at os next r

  -- ---- the queue's call

  abbrev call_at : CallState T → QueueMark → QueueCall T
  call_at at m = record { state = at; mark = m }

  one_cell : (o : Option (cell.Deed T)) (s t : X) → queue.Along cells_did (o ∷ []) s t → Along did cells_did (on_queue o ∷ []) s t
  one_cell None s t h = h
  one_cell (Some d) s t h = h

  module _ (purpose : Purpose T W) (after : QueueCall T) (answer : Option (QueueReply T)) (next : Stage (QueueCall T) T W) (r : Option (Reply T)) (heard : Heard purpose after answer next r) where
    abbrev Queue : CallState T → X → X → Type 0
    Queue at s t = (os : List (Act T W)) × Along did cells_did os s t × ((m : QueueMark) → Goes (Trying (call_at at m) purpose) os next r)

    last : (s : X) (at : CallState T) (t : X) → StateMakes cells_did form s at t (record { action = after.state; mark = after.mark; reply = answer }) → Queue at s t
    last s at t h =
        let n = queue_facts.note_state cells_did form s at t (record { action = after.state; mark = after.mark; reply = answer }) h in
        (on_queue n.0 ∷ [], one_cell n.0 s t n.2, λ m xs given rest. (mark_of_queue after.mark, next, r, (after, answer, (n.0, n.1, refl), refl, heard), rest))

    walk : (n : ℕ) (s : X) (at : CallState T) (x : X) (b : CallState T) (t : X) → cells.Leads (StateMakes cells_did form) n s at x b
        → StateMakes cells_did form x b t (record { action = after.state; mark = after.mark; reply = answer }) → Queue at s t
    walk zero s at x b t (e, f) h =
        last s at t
        (subst (λ (y : X). StateMakes cells_did form y at t (record { action = after.state; mark = after.mark; reply = answer })) e
        (subst (λ (y : CallState T). StateMakes cells_did form x y t (record { action = after.state; mark = after.mark; reply = answer })) f h))
    walk (suc j) s at x b t (y, c, (k, step), path) h =
        let n = queue_facts.note_state cells_did form s at y (record { action = c; mark = k; reply = None }) step in
        let more = walk j y c x b t path h in (
          on_queue n.0 ∷ more.0,
          along_both (on_queue n.0 ∷ []) more.0 s y t (one_cell n.0 s y n.2) more.1,
          λ m xs given rest. (mark_of_queue k, Trying (call_at c k) purpose, None, (call_at c k, None, (n.0, n.1, refl), refl, (refl, refl)), more.2 k xs given rest),
        )

  -- ---- the lists and the counts

  abbrev Noted : ListStep T W → X → Mark → Stage (QueueCall T) T W → Option (Reply T) → X → Type 0
  Noted w s m next r t = (o : Act T W) × WorkMakes (Notes form) w on_nothing o m next r × Along did cells_did (o ∷ []) s t

  left : (held : Option ListenerRef) (s t : X) → Leaves did held s t → (o : Act T W) × Leaves (Notes form) held on_nothing o × Along did cells_did (o ∷ []) s t
  left None s t is = (on_nothing, refl, is)
  left (Some held) s t (names, h) = (on_wait_lists _, (names, refl), (t, h, refl))

  note : (w : ListStep T W) (s : X) (m : Mark) (next : Stage (QueueCall T) T W) (r : Option (Reply T)) (t : X) → WorkMakes did w s t m next r → Noted w s m next r t
  note (TellReceive x) s m next r t (names, h, k) = (on_wait_lists _, (names, refl, k), (t, h, refl))
  note (TellStreams x) s m next r t (names, h, k) = (on_wait_lists _, (names, refl, k), (t, h, refl))
  note (TellSend x) s m next r t (names, h, k) = (on_wait_lists _, (names, refl, k), (t, h, refl))
  note (TellSends n x) s m next r t (names, h, k) = (on_wait_lists _, (names, refl, k), (t, h, refl))
  note (TakeRoom n) s m next r t (turn, is, room, k) = (on_nothing, (turn, refl, room, k), is)
  note (TellAll line x) s m next r t (names, h, k) = (on_wait_lists _, (names, refl, k), (t, h, refl))
  note (Insert w task) s m next r t (o, h, k) = (on_wait_lists _, (o, refl, k), (t, h, refl))
  note (Register w key task) s m next r t (o, h, k) = (on_wait_lists _, (o, refl, k), (t, h, refl))
  note (Leave x) s m next r t (l, k) = let g = left x.held s t l in (g.0, (g.1, k), g.2)
  note (Lower side key) s m next r t (n, h, k) = (on_wait_lists _, (n, refl, k), (t, h, refl))
  note (Count side) s m next r t (n, h, k) = (on_wait_lists _, (n, refl, k), (t, h, refl))
  note (Load side making) s m next r t (n, h, k) = (on_wait_lists _, (n, refl, k), (t, h, refl))
  note (Raise side n making) s m next r t (b, h, k) = (on_wait_lists _, (b, refl, k), (t, h, refl))

  -- ---- a call

  module _ (walks : QueueIsWalked did cells_did form) where
    step : (at : Stage (QueueCall T) T W) (s : X) (m : Mark) (next : Stage (QueueCall T) T W) (r : Option (Reply T)) (t : X) → ChannelMakes did at s t m next r → Step at s next r t
    step (Trying call purpose) s m next r t (after, None, h, e, heard) =
        let w = walks call after None s t h in
        let g = walk purpose after None next r heard w.0 s call.state w.1 w.2 t w.3 w.4 in
        (g.0, g.1, g.2 call.mark)
    step (Trying call purpose) s m next r t (after, Some x, h, e, heard) =
        let w = walks call after (Some x) s t h in
        let e = w.1 in
        let g = walk purpose (call_at e.2 e.3) (Some x) next r heard w.0 s call.state e.0 e.1 t e.4 e.5 in
        (g.0, g.1, g.2 call.mark)
    step (Working w) s m next r t h = let n = note w s m next r t h in (n.0 ∷ [], n.2, λ xs given rest. (m, next, r, n.1, rest))
    step (Finished kept) s m next r t (is, k, e, none) = (on_nothing ∷ [], is, λ xs given rest. (m, next, r, (refl, k, e, none), rest))

    many : (n : ℕ) (s : X) (at : Stage (QueueCall T) T W) (x : X) (b : Stage (QueueCall T) T W) (t : X) (m : Mark) (c : Stage (QueueCall T) T W) (r : Reply T)
        → Leads did n s at x b → ChannelMakes did b x t m c (Some r) → Step at s c (Some r) t
    many zero s at x b t m c r (e, f) h =
        step at s m c (Some r) t (subst (λ (y : X). ChannelMakes did at y t m c (Some r)) e (subst (λ (y : Stage (QueueCall T) T W). ChannelMakes did y x t m c (Some r)) f h))
    many (suc j) s at x b t m c r (y, a, k, h, path) l =
        let one = step at s k a None y h in
        let more = many j y a x b t m c r path l in (
          one.0 ++ more.0,
          along_both one.0 more.0 s y t one.1 more.1,
          λ xs given rest. subst (λ (ys : List (Event T W)). Acts form (Some at) ys given) (map_both one.0 more.0 xs) (one.2 (map does more.0 ++ xs) given (more.2 xs given rest)),
        )

    led : (n : ℕ) (s : X) (at : Stage (QueueCall T) T W) (t : X) (b : Stage (QueueCall T) T W) → Leads did n s at t b
        → (os : List (Act T W)) × Along did cells_did os s t × Acts form (Some at) (map does os) []
    led zero s at t b (e, f) = ([], e, refl)
    led (suc j) s at t b (y, a, k, h, path) =
        let one = step at s k a None y h in
        let more = led j y a t b path in (
          one.0 ++ more.0,
          along_both one.0 more.0 s y t one.1 more.1,
          subst (λ (ys : List (Event T W)). Acts form (Some at) ys []) (map_append one.0 more.0) (one.2 (map does more.0) [] more.2),
        )

pub stands_act : {T W X : Type 0} (did : Deed T W → X → X → Type 0) (cells_did : cell.Deed T → X → X → Type 0) → StandsAct did cells_did
stands_act did cells_did form ask a b n s t walks takes path = let g = led did cells_did form walks n s a t b path in (g.0, g.1, (a, takes, g.2))

pub walks_act : {T W X : Type 0} (did : Deed T W → X → X → Type 0) (cells_did : cell.Deed T → X → X → Type 0) → WalksAct did cells_did
walks_act did cells_did form ask s t r kept walks (at, takes, (n, x, b, m, c, path, h, is)) =
    let g = many did cells_did form walks n s at x b t m c r path h in
    (g.0, g.1, λ xs more rest. (at, takes, g.2 xs (record { reply = r; kept = kept } ∷ more) (more, ap (λ k. record { reply = r; kept = k } ∷ more) is, rest)))
