-- News are told over the four lists as over the four lines, and those that are woken are the same, in order.
use Rattle.std.specs.Prelude.{◌≡◌, ◌≤◌, ◌++◌}
use Rattle.channel_world_runs.proofs.Lemmas.{arith, ℕ, zero, suc, List, take, Bool, true, refl, sym, ap, subst, ◌∙◌, append_assoc, append-nil, WaitLists, listeners, with_listeners, told_one, told_one_wakes, told_more, told_more_wakes, told_all, told_all_wakes, Waiting, told_by, after_news, after_rooms, told_by_rooms, all_told, Kind, Waiter, News, Nothing, Message, Room, Closing, NextIn, WaitList, Sends, Receives, Streams, Closings, times_news, KeysHeld, ShowsLines, KeysFit, list_of, quiet_line, Lined, lined_all, lined_next, one_told, one_woken, all_are_told, message_is, closing_is, told_closed}
use Rattle.channel_world_runs.proofs.refinement.Telling.{all_woken}

abbrev pub room_told : WaitLists Waiter → WaitLists Waiter
room_told a = with_listeners WaitList.Sends (told_one a.sends) a

abbrev pub rooms_told : ℕ → WaitLists Waiter → WaitLists Waiter
rooms_told n a = with_listeners WaitList.Sends (told_more n a.sends) a

abbrev pub receive_told : WaitLists Waiter → WaitLists Waiter
receive_told a = with_listeners WaitList.Receives (told_one a.receives) a

abbrev pub streams_told : WaitLists Waiter → WaitLists Waiter
streams_told a = with_listeners WaitList.Streams (told_all a.streams) a

abbrev pub message_told : WaitLists Waiter → WaitLists Waiter
message_told a = streams_told (receive_told a)

abbrev pub sends_told : WaitLists Waiter → WaitLists Waiter
sends_told a = with_listeners WaitList.Sends (told_all a.sends) a

abbrev pub receives_told : WaitLists Waiter → WaitLists Waiter
receives_told a = with_listeners WaitList.Receives (told_all a.receives) a

abbrev pub closings_told : WaitLists Waiter → WaitLists Waiter
closings_told a = with_listeners WaitList.Closings (told_all a.closings) a

abbrev pub closing_told : WaitLists Waiter → WaitLists Waiter
closing_told a = closings_told (streams_told (receives_told (sends_told a)))

-- a closed channel asks nothing of how anybody was told
pub shut_lines : (kind : Kind) (held : KeysHeld) (closed : Bool) (a : WaitLists Waiter) (l : Waiting) → ShowsLines kind held closed a l → ShowsLines kind held true a l
shut_lines kind held closed a l h line = record { untold = (h line).untold; told = told_closed held closed line _ _ (h line).told }

pub keys_news : (kind : Kind) (held : KeysHeld) (news : News) (l : Waiting) → KeysFit kind held l → KeysFit kind held (after_news news l)
keys_news kind held news l h = record {
  holds = λ w key e. let one : 1 ≤ _ = h.holds w key e in let same = times_news news w l in omega (arith, one, same);
  apart = h.apart;
}

pub keys_rooms : (kind : Kind) (held : KeysHeld) (n : ℕ) (l : Waiting) → KeysFit kind held l → KeysFit kind held (after_rooms n l)
keys_rooms kind held zero l h = h
keys_rooms kind held (suc n) l h = keys_rooms kind held n (after_news Room l) (keys_news kind held Room l h)

-- those that are told then are told after all that were before
pub rooms_woken : (n : ℕ) (l : Waiting) → (after_rooms n l).woken ≡ l.woken ++ told_by_rooms n l
rooms_woken zero l = sym (append-nil l.woken)
rooms_woken (suc n) l =
    let m : Waiting = after_news Room l in
    rooms_woken n m ∙ append_assoc l.woken (told_by Room l) (told_by_rooms n m)

module _ (kind : Kind) (held : KeysHeld) where
  pub nothing_lines : (closed : Bool) (a : WaitLists Waiter) (l : Waiting) → ShowsLines kind held closed a l → ShowsLines kind held closed a (after_news Nothing l)
  nothing_lines closed a l h line = quiet_line kind held closed line (listeners (list_of line) a) l (h line)

  pub room_lines : (closed : Bool) (a : WaitLists Waiter) (l : Waiting) → Lined kind l → ShowsLines kind held closed a l → ShowsLines kind held closed (room_told a) (after_news Room l)
  room_lines closed a l lined h = one_told kind held closed Sends a l lined (λ c. refl) h

  pub room_wakes : (closed : Bool) (a : WaitLists Waiter) (l : Waiting) (rest : List Waiter) → ShowsLines kind held closed a l → told_one_wakes a.sends ++ rest ≡ told_by Room l ++ rest
  room_wakes closed a l rest h = ap (λ (ws : List Waiter). ws ++ rest) (one_woken kind held closed Sends a.sends l (h Sends))

  -- several places became free, one after another
  pub rooms_lines : (n : ℕ) (closed : Bool) (a : WaitLists Waiter) (l : Waiting) → Lined kind l → ShowsLines kind held closed a l
      → ShowsLines kind held closed (rooms_told n a) (after_rooms n l)
  rooms_lines zero closed a l lined h = h
  rooms_lines (suc n) closed a l lined h =
      rooms_lines n closed (room_told a) (after_news Room l) (lined_next kind Sends l lined) (room_lines closed a l lined h)

  pub rooms_wakes : (n : ℕ) (closed : Bool) (a : WaitLists Waiter) (l : Waiting) → Lined kind l → ShowsLines kind held closed a l
      → told_more_wakes n a.sends ≡ told_by_rooms n l
  rooms_wakes zero closed a l lined h = refl
  rooms_wakes (suc n) closed a l lined h =
      ap (λ (ws : List Waiter). ws ++ told_more_wakes n (told_one a.sends)) (one_woken kind held closed Sends a.sends l (h Sends))
      ∙ ap (λ (ws : List Waiter). take 1 l.sends ++ ws)
      (rooms_wakes n closed (room_told a) (after_news Room l) (lined_next kind Sends l lined) (room_lines closed a l lined h))

  receive_lines : (closed : Bool) (a : WaitLists Waiter) (l : Waiting) → Lined kind l → ShowsLines kind held closed a l → ShowsLines kind held closed (receive_told a) (after_news (NextIn Receives) l)
  receive_lines closed a l lined h = one_told kind held closed Receives a l lined (λ c. refl) h

  pub message_lines : (closed : Bool) (a : WaitLists Waiter) (l : Waiting) → Lined kind l → ShowsLines kind held closed a l → ShowsLines kind held closed (message_told a) (after_news Message l)
  message_lines closed a l lined h =
      subst (λ (m : Waiting). ShowsLines kind held closed (message_told a) m) (message_is l)
      (all_are_told kind held closed Streams (receive_told a) (after_news (NextIn Receives) l) (lined_next kind Receives l lined) (λ c. refl) (receive_lines closed a l lined h))

  pub message_wakes : (closed : Bool) (a : WaitLists Waiter) (l : Waiting) (rest : List Waiter) → ShowsLines kind held closed a l
      → told_one_wakes a.receives ++ (told_all_wakes a.streams ++ rest) ≡ told_by Message l ++ rest
  message_wakes closed a l rest h =
      ap (λ (ws : List Waiter). ws ++ (told_all_wakes a.streams ++ rest)) (one_woken kind held closed Receives a.receives l (h Receives))
      ∙ ap (λ (ws : List Waiter). take 1 l.receives ++ (ws ++ rest)) (all_woken kind held closed Streams a.streams l (h Streams))
      ∙ sym (append_assoc (take 1 l.receives) l.streams rest)

  all_shut : (line : WaitList) (a : WaitLists Waiter) (l : Waiting) → Lined kind l → ShowsLines kind held true a l → ShowsLines kind held true (with_listeners (list_of line) (told_all (listeners (list_of line) a)) a) (all_told line l)
  all_shut line a l lined h = all_are_told kind held true line a l lined (λ c. cc c) h

  pub closing_lines : (a : WaitLists Waiter) (l : Waiting) → Lined kind l → ShowsLines kind held true a l → ShowsLines kind held true (closing_told a) (after_news Closing l)
  closing_lines a l lined h =
      let m1 = all_told Sends l in
      let m2 = all_told Receives m1 in
      let m3 = all_told Streams m2 in
      let lined1 = lined_all kind Sends l lined in
      let lined2 = lined_all kind Receives m1 lined1 in
      let lined3 = lined_all kind Streams m2 lined2 in
      let h1 = all_shut Sends a l lined h in
      let h2 = all_shut Receives (sends_told a) m1 lined1 h1 in
      let h3 = all_shut Streams (receives_told (sends_told a)) m2 lined2 h2 in
      let h4 = all_shut Closings (streams_told (receives_told (sends_told a))) m3 lined3 h3 in
      subst (λ (m : Waiting). ShowsLines kind held true (closing_told a) m) (closing_is l) h4

  pub closing_wakes : (closed : Bool) (a : WaitLists Waiter) (l : Waiting) (rest : List Waiter) → ShowsLines kind held closed a l
      → told_all_wakes a.sends ++ (told_all_wakes a.receives ++ (told_all_wakes a.streams ++ (told_all_wakes a.closings ++ rest))) ≡ told_by Closing l ++ rest
  closing_wakes closed a l rest h =
      ap (λ (ws : List Waiter). ws ++ (told_all_wakes a.receives ++ (told_all_wakes a.streams ++ (told_all_wakes a.closings ++ rest)))) (all_woken kind held closed Sends a.sends l (h Sends))
      ∙ ap (λ (ws : List Waiter). l.sends ++ (ws ++ (told_all_wakes a.streams ++ (told_all_wakes a.closings ++ rest)))) (all_woken kind held closed Receives a.receives l (h Receives))
      ∙ ap (λ (ws : List Waiter). l.sends ++ (l.receives ++ (ws ++ (told_all_wakes a.closings ++ rest)))) (all_woken kind held closed Streams a.streams l (h Streams))
      ∙ ap (λ (ws : List Waiter). l.sends ++ (l.receives ++ (l.streams ++ (ws ++ rest)))) (all_woken kind held closed Closings a.closings l (h Closings))
      ∙ sym (append_assoc (l.sends ++ l.receives ++ l.streams) l.closings rest ∙ append_assoc (l.sends ++ l.receives) l.streams (l.closings ++ rest) ∙ append_assoc l.sends l.receives (l.streams ++ (l.closings ++ rest)))
