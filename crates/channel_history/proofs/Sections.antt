-- A section on a list that lies with the party's seat keeps a history.
use Rattle.std.proofs.Common.{◌≡◌, ℕ, ◌+◌, Bool, true, false, List, [], ◌∷◌, ◌++◌, map, if◌then◌else◌, refl, sym, ap, ◌∙◌, subst, arith}
use Rattle.std.specs.Prelude.{slice_set}
use Rattle.concurrent_queue.specs.Contents.{Contents}
use Rattle.concurrent_queue.specs.declared.cells.QueueForm.{QueueForm}
use Rattle.concurrent_queue.specs.machine.Places.{Each}
use Rattle.event_listener.specs.Lists.{ListView}
use Rattle.channel_calls.specs.Deeds.{Deed, woken_by}
use Rattle.channel_calls.specs.Effects.{Does}
use Rattle.channel_calls.specs.Parts.{Parts, Listeners, with_listeners, with_wait_lists}
use Rattle.channel_calls.specs.declared.stage.WaitList.{WaitList}
use Rattle.channel_calls.specs.declared.stage.WaitList.TheVariants.{Sends, Receives, Streams, Closings}
use Rattle.channel_steps.specs.every_run.Bridge.{does, on_wait_lists}
use Rattle.channel_steps.specs.every_run.Closed.{one_if}
use Rattle.channel_history.specs.History.{total, is_line, is_list, IsTrue, parts_of, LieWithSeats, IsChannelHistory}
use Rattle.channel_history.specs.Keeps.{IsAt, ChangesList, Leaves, SectionsKeep}
use Rattle.channel_history.specs.declared.party.Standing.{Standing}
use Rattle.channel_history.proofs.Goes.{all_woken, order_last, goes_on}
use Rattle.channel_history.proofs.Keeping.{leads_now, others_now}
use Rattle.channel_history.proofs.Passing.{itself, found, handles_now, listed_now, once_now}
use Rattle.channel_history.proofs.Together.{total_set, each_at, all_keep, others_keep}

module _ {W : Type 0} where
  abbrev put : WaitList → Listeners W → (WaitList → Listeners W) → WaitList → Listeners W
  put line k f x = if is_line line x then k else f x

module _ {T W : Type 0} where
  with_put : (line : WaitList) (k : Listeners W) (c : Contents T) (f : WaitList → Listeners W) (n m : ℕ)
      → let parts : Parts T W = parts_of c f n m in with_wait_lists (with_listeners line k parts.wait_lists) parts ≡ parts_of c (put line k f) n m
  with_put Sends k c f n m = refl
  with_put Receives k c f n m = refl
  with_put Streams k c f n m = refl
  with_put Closings k c f n m = refl

pub not_one : (b : Bool) → one_if b ≡ 0 → b ≡ false
not_one false e = refl
not_one true e = absurd (omega (arith, e))

module _ {T W : Type 0} (form : QueueForm) (views : List (Standing T W)) (c : Contents T) (n m : ℕ) (h : IsChannelHistory form views c n m) (p : ℕ) (v w : Standing T W) (there : IsAt views p v)
    (line : WaitList) (l k : ListView Unit W) (o : Deed T W) (has : v.own.lists ≡ (line, l) ∷ []) (left : w.own.lists ≡ (line, k) ∷ []) (leaves : Leaves o v w)
    (changes : ChangesList line o l.lists k.lists) where
  abbrev Here : (WaitList → Listeners W) → Standing T W → Type 0
  Here f s = Each (IsTrue f) s.own.lists

  abbrev Put : WaitList → Listeners W
  Put = put line k.lists h.listening

  held : h.listening line ≡ l.lists
  held =
      let lie = h.lie in
      let mine = subst (λ (ls : List (WaitList × ListView Unit W)). Each (IsTrue h.listening) ls) has (each_at (Here h.listening) views p v there lie.true_lists) in
      sym mine.0

  elsewhere : (x : WaitList × ListView Unit W) → is_list line x ≡ 0 → IsTrue h.listening x → IsTrue Put x
  elsewhere x other e = e ∙ sym (ap (λ (b : Bool). if b then k.lists else h.listening x.0) (not_one (is_line line x.0) other))

  mine_now : Here Put w
  mine_now =
      subst (λ (ls : List (WaitList × ListView Unit W)). Each (IsTrue Put) ls) (sym left)
      (sym (ap (λ (b : Bool). if b then k.lists else h.listening line) (itself line)), tt)

  one_here : total (is_list line) v.own.lists ≡ 1
  one_here = ap (λ (ls : List (WaitList × ListView Unit W)). total (is_list line) ls) has ∙ ap (λ (b : Bool). one_if b + 0) (itself line)

  pub did : Does o (parts_of c h.listening n m) (parts_of c Put n m)
  did =
      subst (λ (x : Parts T W). Does o (parts_of c h.listening n m) x) (with_put line k.lists c h.listening n m)
      (changes (parts_of c h.listening n m) (found line c h.listening n m ∙ held))

  pub lie_after : LieWithSeats (slice_set views p w) Put n m
  lie_after = let lie = h.lie in record {
    lists = λ x.
        let set = total_set (λ (s : Standing T W). total (is_list x) s.own.lists) views p v w there in
        let was = ap (λ (ls : List (WaitList × ListView Unit W)). total (is_list x) ls) has in
        let is = ap (λ (ls : List (WaitList × ListView Unit W)). total (is_list x) ls) left in
        let one = lie.lists x in
        omega (arith, set, was, is, one);
    true_lists = let one = lie.lists line in
        others_keep (λ (s : Standing T W). total (is_list line) s.own.lists) (Here h.listening) (Here Put)
        (λ s none all. all_keep (is_list line) (IsTrue h.listening) (IsTrue Put) elsewhere s.own.lists none all)
        views p v w there (omega (arith, one_here)) (omega (arith, one)) lie.true_lists mine_now;
    handles = handles_now views p v w there o leaves c h.listening n m Put n m did lie;
    listed = listed_now views p v w there o leaves c h.listening n m Put n m did lie;
    once = once_now views p v w there o leaves c h.listening n m Put n m did lie;
  }

pub sections_keep : (T W : Type 0) → SectionsKeep T W
sections_keep T W form views c n m p v w line l k o h there (os, quiet, leads) has left leaves changes =
    goes_on form views (slice_set views p w) c c n m n m h p (map does (os ++ on_wait_lists o ∷ [])) (put line k.lists h.listening) (h.woken ++ woken_by o)
    (order_last p os (on_wait_lists o) (parts_of c h.listening n m, h.woken) (parts_of c (put line k.lists h.listening) n m, h.woken ++ woken_by o) quiet
    (did form views c n m h p v w there line l k o has left leaves changes, all_woken h.woken (woken_by o)))
    (leads_now form views c n m h p v w there _ leads) (others_now form views c n m h p v w there) (lie_after form views c n m h p v w there line l k o has left leaves changes)
