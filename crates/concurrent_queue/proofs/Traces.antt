-- What a trace saw of a call that was made over cells which show it their deeds.
use Rattle.std.proofs.Common.{◌≡◌, ◌∙◌, Option, Result, Some, Ok, Err, refl, sym, subst}
use Rattle.concurrent_queue.specs.Deeds.{Deed}
use Rattle.concurrent_queue.specs.Walked.{StateMakes, CallMakes, WalkedFrom, WalkedFast, standing}
use Rattle.concurrent_queue.specs.machine.FastPath.{Leads}
use Rattle.concurrent_queue.specs.declared.call.QueueReply.{QueueReply}
use Rattle.concurrent_queue.specs.declared.call.Stepped.{Stepped}
use Rattle.concurrent_queue.specs.declared.cells.QueueForm.{QueueForm}
use Rattle.concurrent_queue.specs.declared.queue_call.CallState.{CallState}
use Rattle.concurrent_queue.specs.declared.queue_call.QueueCall.{QueueCall}
use Rattle.concurrent_queue.specs.declared.seen.Lent.{Lent}
use Rattle.concurrent_queue.specs.declared.seen.Seen.{Seen}
use Rattle.concurrent_queue.proofs.Walks.{state_seen, leads_seen, walked_seen, walked_standing, walked_on, step_keeps, leads_keep}

-- cells of any kind, and a trace that is given back
module _ {T C S : Type 0} (on_cells : Deed T → C → C → Type 0) (did : Deed T → S → S → Type 0) (form : QueueForm) (s t : Seen C S) (y : S) (to : y ≡ t.trace) where
  abbrev both : Deed T → Seen C S → Seen C S → Type 0
  both d a b = on_cells d a.cells b.cells × did d a.trace b.trace

  shows : (d : Deed T) (a b : Seen C S) → both d a b → did d a.trace b.trace
  shows d a b h = h.1

  -- a call made up to its answer
  pub traced : (at : CallState T) (r : QueueReply T) → WalkedFrom both form at s r t → WalkedFrom did form at s.trace r y
  traced at r walked = subst (λ (z : S). WalkedFrom did form at s.trace r z) (sym to) (walked_seen both did (λ (z : Seen C S). z.trace) shows form s at t r walked)

  -- one step of a call
  pub stepped : (call next : QueueCall T) (r : Option (QueueReply T)) → CallMakes both form s call t next r → CallMakes did form s.trace call y next r
  stepped call next r made =
      let end : Stepped (CallState T) T = record { action = next.state; mark = next.mark; reply = r } in
      subst (λ (z : S). StateMakes did form s.trace call.state z end) (sym to) (state_seen both did (λ (z : Seen C S). z.trace) shows form s call.state t end made)

  -- straight code, to its answer or to the call that it leaves
  pub traced_fast : {R : Type 0} (reply : R → QueueReply T) (at : CallState T) (o : Result R (QueueCall T)) → WalkedFast both reply form at s o t → WalkedFast did reply form at s.trace o y
  traced_fast reply at (Ok r) walked = traced at (reply r) walked
  traced_fast reply at (Err call) (n, path) =
      (n, subst (λ (z : S). Leads (StateMakes did form) n s.trace at z (standing form call.state)) (sym to) (leads_seen both did (λ (z : Seen C S). z.trace) shows form n s at t (standing form call.state) path))

-- and of the cells, which are given back
module _ {T C S : Type 0} (on_cells : Deed T → C → C → Type 0) (did : Deed T → S → S → Type 0) (form : QueueForm) (s t : Seen C S) (y : C) (to : y ≡ t.cells) where
  pub on_cells_walked : (at : CallState T) (r : QueueReply T) → WalkedFrom (λ (d : Deed T) (a b : Seen C S). on_cells d a.cells b.cells × did d a.trace b.trace) form at s r t → WalkedFrom on_cells form at s.cells r y
  on_cells_walked at r walked =
      subst (λ (z : C). WalkedFrom on_cells form at s.cells r z) (sym to)
      (walked_seen (λ (d : Deed T) (a b : Seen C S). on_cells d a.cells b.cells × did d a.trace b.trace) on_cells (λ (z : Seen C S). z.cells) (λ d a b h. h.0) form s at t r walked)

-- what was seen on cells of an equal form, from an equal trace
module _ {T S : Type 0} (did : Deed T → S → S → Type 0) (form now : QueueForm) (w x : S) (same : now ≡ form) (from : w ≡ x) where
  pub walked_here : (at : CallState T) (r : QueueReply T) (y : S) → WalkedFrom did now at w r y → WalkedFrom did form at x r y
  walked_here at r y walked = subst (λ (f : QueueForm). WalkedFrom did f at x r y) same (subst (λ (z : S). WalkedFrom did now at z r y) from walked)

  pub step_here : (call next : QueueCall T) (r : Option (QueueReply T)) (y : S) → CallMakes did now w call y next r → CallMakes did form x call y next r
  step_here call next r y made = subst (λ (f : QueueForm). CallMakes did f x call y next r) same (subst (λ (z : S). CallMakes did now z call y next r) from made)

  -- a call at this state that straight code began
  module _ {R : Type 0} (reply : R → QueueReply T) (at : CallState T) (y : S) (o : Result R (QueueCall T)) (fast : WalkedFast did reply now (standing now at) w o y) where
    began : (p : Result R (QueueCall T)) → o ≡ p → WalkedFast did reply form (standing form at) x p y
    began p is =
        subst (λ (f : QueueForm). WalkedFast did reply f (standing f at) x p y) same
        (subst (λ (z : S). WalkedFast did reply now (standing now at) z p y) from
        (subst (λ (q : Result R (QueueCall T)). WalkedFast did reply now (standing now at) w q y) is fast))

    -- it answered
    pub answered : (r : R) → o ≡ Ok r → WalkedFrom did form at x (reply r) y
    answered r is = walked_standing did form x at y (reply r) (began (Ok r) is)

    -- what it left was walked on
    pub went_on : (left : QueueCall T) (r : QueueReply T) (z : S) → o ≡ Err left → WalkedFrom did form left.state y r z → WalkedFrom did form at x r z
    went_on left r z is rest =
        let begun = began (Err left) is in
        walked_standing did form x at z r (walked_on did form form begun.0 x (standing form at) y left.state z r refl begun.1 rest)

-- a trace that is lent: the one that lends it sees what it sees, and stays the same one
module _ {T S : Type 0} (did : Deed T → S → S → Type 0) where
  abbrev lends : Deed T → Lent S → Lent S → Type 0
  lends d a b = (b.trace.ghost_name ≡ a.trace.ghost_name) × did d a.trace.now b.trace.now

  pub lent_walked : (form : QueueForm) (at : CallState T) (s t : Lent S) (r : QueueReply T) → WalkedFrom lends form at s r t → WalkedFrom did form at s.trace.now r t.trace.now
  lent_walked form at s t r walked = walked_seen lends did (λ (l : Lent S). l.trace.now) (λ d a b h. h.1) form s at t r walked

  pub lent_step : (form : QueueForm) (call next : QueueCall T) (s t : Lent S) (r : Option (QueueReply T)) → CallMakes lends form s call t next r → CallMakes did form s.trace.now call t.trace.now next r
  lent_step form call next s t r made =
      state_seen lends did (λ (l : Lent S). l.trace.now) (λ d a b h. h.1) form s call.state t (record { action = next.state; mark = next.mark; reply = r }) made

  pub same_after_walk : (form : QueueForm) (at : CallState T) (s t : Lent S) (r : QueueReply T) → WalkedFrom lends form at s r t → t.trace.ghost_name ≡ s.trace.ghost_name
  same_after_walk form at s t r (n, (x, y, z, m, path, last)) =
      step_keeps lends (λ (l : Lent S). l.trace.ghost_name) (λ d a b h. h.0) form x y t (record { action = z; mark = m; reply = Some r }) last
      ∙ leads_keep lends (λ (l : Lent S). l.trace.ghost_name) (λ d a b h. h.0) form n s at x y path

  pub same_after_step : (form : QueueForm) (call next : QueueCall T) (s t : Lent S) (r : Option (QueueReply T)) → CallMakes lends form s call t next r → t.trace.ghost_name ≡ s.trace.ghost_name
  same_after_step form call next s t r made =
      step_keeps lends (λ (l : Lent S). l.trace.ghost_name) (λ d a b h. h.0) form s call.state t (record { action = next.state; mark = next.mark; reply = r }) made
