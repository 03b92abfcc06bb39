-- How a party goes on, step by step.
use Rattle.std.proofs.Common.{◌≡◌, List, [], ◌∷◌, ◌++◌, map, refl, sym, subst, append-nil}
use Rattle.std.specs.Prelude.{Option, None, Some}
use Rattle.concurrent_queue.specs.declared.cells.QueueForm.{QueueForm}
use Rattle.concurrent_queue.specs.declared.queue_call.QueueCall.{QueueCall}
use Rattle.channel_calls.specs.Asks.{first, kept_by}
use Rattle.channel_calls.specs.Walks.{Takes, ChannelMakes}
use Rattle.channel_calls.specs.declared.ask.ChannelAsk.{ChannelAsk}
use Rattle.channel_calls.specs.declared.mark.Mark.{Mark}
use Rattle.channel_calls.specs.declared.reply.Reply.{Reply}
use Rattle.channel_calls.specs.declared.stage.Stage.{Stage}
use Rattle.channel_calls.specs.declared.whole.Completed.{Completed}
use Rattle.channel_steps.specs.every_run.Bridge.{Act, on_nothing, begins, does, ActsTo, Notes}
use Rattle.channel_history.specs.Party.{Leads, Begins}
use Rattle.channel_history.specs.Steps.{begun, stepped, Steps, PartiesGoOn}
use Rattle.channel_history.specs.declared.party.Standing.{Standing}
use Rattle.channel_history.proofs.PartyFacts.{leads_on}

module _ {T W : Type 0} (form : QueueForm) where
  nowhere : (s : Standing T W) → Leads form s [] s
  nowhere s = record { more = []; acts = (refl, refl); given = sym (append-nil s.given); asked = sym (append-nil s.asked) }

  begins_so : (s : Standing T W) (ask : ChannelAsk T W) (at : Stage (QueueCall T) T W) → s.stage ≡ None → Takes (first ask) at None → Begins form s ask (begun s ask at)
  begins_so s ask at idle takes = record {
    more = [];
    acts = subst (λ (x : Option (Stage (QueueCall T) T W)). ActsTo form x (begins ask ∷ []) [] (Some at)) (sym idle) (at, takes, (refl, refl));
    given = sym (append-nil s.given);
    asked = refl;
  }

  by_answer : (s : Standing T W) (o : Act T W) (at : Stage (QueueCall T) T W) (m : Mark) (next : Stage (QueueCall T) T W) (answer : Option (Reply T)) → s.stage ≡ Some at
      → ChannelMakes (Notes form) at on_nothing o m next answer → Leads form s (does o ∷ []) (stepped s next answer)
  by_answer s o at m next None is makes = record {
    more = [];
    acts = subst (λ (x : Option (Stage (QueueCall T) T W)). ActsTo form x (does o ∷ []) [] (Some next)) (sym is) (m, next, None, makes, (refl, refl));
    given = sym (append-nil s.given);
    asked = sym (append-nil s.asked);
  }
  by_answer s o at m next (Some r) is makes =
      let all : List (Completed T) = record { reply = r; kept = kept_by next } ∷ [] in
      record {
        more = all;
        acts = subst (λ (x : Option (Stage (QueueCall T) T W)). ActsTo form x (does o ∷ []) all None) (sym is) (m, next, Some r, makes, ([], refl, (refl, refl)));
        given = refl;
        asked = sym (append-nil s.asked);
      }

  by_step : (s t : Standing T W) (o : Act T W) → Steps form s o t → Leads form s (does o ∷ []) t
  by_step s t o (at, m, next, answer, is, makes, left) = subst (λ (x : Standing T W). Leads form s (does o ∷ []) x) (sym left) (by_answer s o at m next answer is makes)

pub parties_go_on : (T W : Type 0) → PartiesGoOn T W
parties_go_on T W = record {
  begins = λ form s ask at idle takes. begins_so form s ask at idle takes;
  makes = λ form s t o step. ([], tt, by_step form s t o step);
  later = λ form s t u q o still step next. (q ∷ next.0, (still, next.1), leads_on form s t u (does q ∷ []) (map does (next.0 ++ o ∷ [])) (by_step form s t q step) next.2);
  leaves = λ form s t o own (os, still, l). (os, still, record { more = l.more; acts = l.acts; given = l.given; asked = l.asked });
  ended = λ form s idle. ([], tt, nowhere form s, idle);
  ends = λ form s t u q still step next. (q ∷ next.0, (still, next.1), leads_on form s t u (does q ∷ []) (map does next.0) (by_step form s t q step) next.2, next.3);
}
