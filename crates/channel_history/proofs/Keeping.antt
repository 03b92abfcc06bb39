-- What keeps a history, from one lemma of events more: an operation, and a call that begins or ends.
use Rattle.std.proofs.Common.{◌≡◌, ◌≢◌, ℕ, zero, suc, List, [], ◌∷◌, ◌++◌, length, map, refl, sym, ap, subst, arith}
use Rattle.std.specs.Prelude.{slice_set, Some}
use Rattle.concurrent_queue.specs.Contents.{Contents}
use Rattle.concurrent_queue.specs.declared.cells.QueueForm.{QueueForm}
use Rattle.event_listener.specs.Lists.{ListView}
use Rattle.channel_calls.specs.Parts.{nobody_listens}
use Rattle.channel_calls.specs.declared.stage.Side.{Side}
use Rattle.channel_calls.specs.declared.stage.Side.TheVariants.{Senders, Receivers}
use Rattle.channel_calls.specs.declared.stage.WaitList.{WaitList}
use Rattle.channel_calls.specs.declared.stage.WaitList.TheVariants.{Sends, Receives, Streams, Closings}
use Rattle.channel_steps.specs.every_run.Bridge.{Event, begins, does, on_queue}
use Rattle.channel_history.specs.History.{count_of, is_handle, lists_of, handles_of, is_list, among, parts_of, LieWithSeats, IsChannelHistory}
use Rattle.channel_history.specs.Keeps.{IsAt, opening, OpensWell, QueueOperationsKeep, BeginningsKeep, ArrivalsKeep, EndingsKeep}
use Rattle.channel_history.specs.Party.{nothing, fresh, with_own, standing_of, Leads}
use Rattle.channel_history.specs.declared.party.Standing.{Standing}
use Rattle.channel_history.proofs.Goes.{order_still, order_last, goes_on}
use Rattle.channel_history.proofs.Lying.{lie_kept, lie_with_new}
use Rattle.channel_history.proofs.PartyFacts.{leads_nowhere}
use Rattle.channel_history.proofs.Seats.{stands_at, stands_set, stands_else, stands_past, stands_last, stands_before}

-- ---- the opening

module _ (T W : Type 0) (form : QueueForm) (l : ListView Unit W) (is : l.lists ≡ nobody_listens) where
  at_first : (p : ℕ) → Leads form fresh [] (standing_of {T = T} (opening l) p)
  at_first zero = record { more = []; acts = (refl, refl); given = refl; asked = refl }
  at_first (suc p) = leads_nowhere form

  each_once : (line : WaitList) → among lists_of (is_list line) (opening {T = T} l) ≡ 1
  each_once Sends = refl
  each_once Receives = refl
  each_once Streams = refl
  each_once Closings = refl

  one_each : (side : Side) → among handles_of (is_handle side) (opening {T = T} l) ≡ count_of side 1 1
  one_each Senders = refl
  one_each Receivers = refl

pub opens_well : (T W : Type 0) → OpensWell T W
opens_well T W form l is = record {
  events = [];
  listening = λ line. nobody_listens;
  woken = [];
  order = refl;
  each = at_first T W form l is;
  lie = record {
    lists = each_once T W form l is;
    true_lists = ((is, (is, (is, (is, tt)))), tt);
    handles = one_each T W form l is;
    listed = λ line key. refl;
    once = λ line key. omega arith;
  };
}

-- ---- what one seat's party does

module _ {T W : Type 0} (form : QueueForm) (views : List (Standing T W)) (c : Contents T) (n m : ℕ) (h : IsChannelHistory form views c n m) (p : ℕ) (v w : Standing T W) (there : IsAt views p v) where
  abbrev pub Now : List (Standing T W)
  Now = slice_set views p w

  pub leads_now : (es : List (Event T W)) → Leads form v es w → Leads form (standing_of views p) es (standing_of Now p)
  leads_now es l =
      subst (λ (x : Standing T W). Leads form x es (standing_of Now p)) (sym (stands_at views p v there))
      (subst (λ (x : Standing T W). Leads form v es x) (sym (stands_set views p v w there)) l)

  pub others_now : (q : ℕ) → q ≢ p → with_own nothing (standing_of Now q) ≡ with_own nothing (standing_of views q)
  others_now q apart = ap (λ (s : Standing T W). with_own nothing s) (stands_else views p q w apart)

  lie_now : w.own ≡ v.own → LieWithSeats Now h.listening n m
  lie_now e = lie_kept views p v w there e h.listening n m h.lie

pub queue_operations_keep : (T W : Type 0) → QueueOperationsKeep T W
queue_operations_keep T W form views c d n m p v w o h there (os, quiet, l) same done =
    goes_on form views (Now form views c n m h p v w there) c d n m n m h p (map does (os ++ on_queue (Some o) ∷ [])) h.listening h.woken
    (order_last p os (on_queue (Some o)) (parts_of c h.listening n m, h.woken) (parts_of d h.listening n m, h.woken) quiet (done, refl, refl))
    (leads_now form views c n m h p v w there _ l) (others_now form views c n m h p v w there) (lie_now form views c n m h p v w there same)

pub beginnings_keep : (T W : Type 0) → BeginningsKeep T W
beginnings_keep T W form views c n m p v w ask h there l same =
    goes_on form views (Now form views c n m h p v w there) c c n m n m h p (begins ask ∷ []) h.listening h.woken
    ((parts_of c h.listening n m, h.woken), refl, refl)
    (leads_now form views c n m h p v w there _ l) (others_now form views c n m h p v w there) (lie_now form views c n m h p v w there same)

pub endings_keep : (T W : Type 0) → EndingsKeep T W
endings_keep T W form views c n m p v w h there (os, quiet, l, ended) same =
    goes_on form views (Now form views c n m h p v w there) c c n m n m h p (map does os) h.listening h.woken
    (order_still p os (parts_of c h.listening n m, h.woken) quiet)
    (leads_now form views c n m h p v w there _ l) (others_now form views c n m h p v w there) (lie_now form views c n m h p v w there same)

pub arrivals_keep : (T W : Type 0) → ArrivalsKeep T W
arrivals_keep T W form views c n m w ask h l none =
    goes_on form views (views ++ w ∷ []) c c n m n m h (length views) (begins ask ∷ []) h.listening h.woken
    ((parts_of c h.listening n m, h.woken), refl, refl)
    (subst (λ (x : Standing T W). Leads form x (begins ask ∷ []) (standing_of (views ++ w ∷ []) (length views))) (sym (stands_past views))
    (subst (λ (x : Standing T W). Leads form fresh (begins ask ∷ []) x) (sym (stands_last views w)) l))
    (λ q apart. ap (λ (s : Standing T W). with_own nothing s) (stands_before views q w apart))
    (lie_with_new views w none h.listening n m h.lie)
