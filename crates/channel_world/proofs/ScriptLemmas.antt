-- How the output grows.
use Rattle.std.specs.Prelude.{◌≡◌, ◌-◌, ◌∷◌, ◌++◌, ◌≤◌, ◌^◌, ◌+◌}
use Rattle.channel_world.proofs.Words.{arith, ℕ, List, [], take, drop, length, Option, Some, None, IfSome, refl, sym, subst, ap, ◌∙◌, append_assoc, append-nil, nat_lt, false, Appends, take-append-drop, take_all, length-drop, Script, script, script_of_lines, today, lines_of, nat_tests, Extends, AppendsFront, IsText, IsReadEnd, WritesText, WritesScript, late_line, last_lines, text_of_lines, ScriptEnd, Done, Unreadable, Capacity, Memory, Fault, true, Result, Ok, Err, is_err, codes, suc, result_unwrap_or, Language, ScriptScene, ending, replying_first, readable, obeyed, followed, opened, first_scene, Command, Adds}

-- ---- what is known of the bytes of a reader and of a writer, over several calls

pub appends_more : (a b c : Option (List ℕ)) (xs ys : List ℕ) → Appends a b xs → Appends b c ys → Appends a c (xs ++ ys)
appends_more None b c xs ys h k = tt
appends_more (Some ks) None c xs ys h k = absurd h
appends_more (Some ks) (Some bs) None xs ys h k = absurd k
appends_more (Some ks) (Some bs) (Some cs) xs ys h k = k ∙ (ap (λ zs. zs ++ ys) h ∙ append_assoc ks xs ys)

-- a front of the text was written, and this is left of it
pub record IsWritten (old new : Option (List ℕ)) (text rest : List ℕ) : Type 0 where
  pub out : List ℕ
  pub appends : Appends old new out
  pub parts : text ≡ out ++ rest

pub more_written : {a b c : Option (List ℕ)} {text rest : List ℕ} (n : ℕ) → IsWritten a b text rest → Appends b c (take n rest) → IsWritten a c text (take (length rest - n) (drop n rest))
more_written {a} {b} {c} {text} {rest} n w k = record {
  out = w.out ++ take n rest;
  appends = appends_more a b c w.out (take n rest) w.appends k;
  parts = w.parts ∙ (ap (λ zs. w.out ++ zs) (sym (take-append-drop n rest)) ∙ (sym (append_assoc w.out (take n rest) (drop n rest)) ∙ ap (λ zs. (w.out ++ take n rest) ++ zs) (sym (take_all (length rest - n) (drop n rest) (omega (arith, length-drop n rest))))));
}

pub text_of_lines-append : (a b : List (List ℕ)) → text_of_lines (a ++ b) ≡ text_of_lines a ++ text_of_lines b
text_of_lines-append [] b = refl
text_of_lines-append (l ∷ ls) b = ap (λ t. l ++ 10 ∷ t) (text_of_lines-append ls b) ∙ sym (append_assoc l (10 ∷ text_of_lines ls) (text_of_lines b))

-- a composed text and its late line are a text of the script
pub is_text : (input out : List ℕ) (end : ScriptEnd) → Extends (script input) end [] out → IsText input end (out ++ late_line end)
is_text input out Done x = (x.2.0, append-nil out ∙ (x.1 ∙ x.2.1))
is_text input out (Unreadable n) x = (x.2.0, append-nil out ∙ (x.1 ∙ x.2.1))
is_text input out Capacity x = (x.2.0, append-nil out ∙ (x.1 ∙ x.2.1))
is_text input out Memory x = (x.2.0, ap (λ t. t ++ late_line Memory) (x.1 ∙ x.2.1) ∙ sym (text_of_lines-append (take x.2.0 (script input).replies) (last_lines Memory)))
is_text input out Fault x = absurd x.2

pub is_text_unread : (input : List ℕ) (end : ScriptEnd) → IsReadEnd end → IsText input end (late_line end)
is_text_unread input Memory h = (0, refl)
is_text_unread input Fault h = refl
is_text_unread input Done h = absurd h
is_text_unread input (Unreadable n) h = absurd h
is_text_unread input Capacity h = absurd h

pub appends_two : (a b c : Option (List ℕ)) (xs ys : List ℕ) → Appends a b xs → AppendsFront b c ys → AppendsFront a c (xs ++ ys)
appends_two a b c xs ys h k = (xs ++ k.0, appends_more a b c xs k.0 h k.1, (k.2.0, ap (λ zs. xs ++ zs) k.2.1 ∙ sym (append_assoc xs k.0 k.2.0)))

short_script : (input : List ℕ) → length input ≤ 16777216 → script_of_lines today (lines_of input) ≡ script input
short_script input h = let fits : nat_lt 16777216 (length input) ≡ false = grind (arith, nat_tests) in rw fits refl

-- the text composed of what a reader gave
pub text_of_read : (known : Option (List ℕ)) (input seen old out : List ℕ) (end : ScriptEnd) → length input ≤ 16777216 → IfSome known (λ k. input ≡ k) → seen ≡ input → old ≡ [] → Extends (script_of_lines today (lines_of seen)) end old out
    → (i : List ℕ) × IfSome known (λ k. i ≡ k) × IsText i end (out ++ late_line end)
text_of_read known input seen old out end l h e f x =
    let same : script_of_lines today (lines_of seen) ≡ script input = ap (λ (i : List ℕ). script_of_lines today (lines_of i)) e ∙ short_script input l in
    (input, h, is_text input out end (subst (λ (o : List ℕ). Extends (script input) end o out) f (subst (λ (s : Script). Extends s end old out) same x)))

-- the text of a script that was not read, whatever bytes it has
pub text_unread : (known : Option (List ℕ)) (out : List ℕ) (end : ScriptEnd) → out ≡ [] → IsReadEnd end → (i : List ℕ) × IfSome known (λ k. i ≡ k) × IsText i end (out ++ late_line end)
text_unread None out end e h = ([], tt, subst (λ (o : List ℕ). IsText [] end (o ++ late_line end)) (sym e) (is_text_unread [] end h))
text_unread (Some k) out end e h = (k, refl, subst (λ (o : List ℕ). IsText k end (o ++ late_line end)) (sym e) (is_text_unread k end h))

-- what is written of a text is written of a script
pub script_read : (known : Option (List ℕ)) (meant end : ScriptEnd) (out seen : List ℕ) (old new : Option (List ℕ)) → seen ≡ out → ((i : List ℕ) × IfSome known (λ k. i ≡ k) × IsText i meant (out ++ late_line meant))
    → WritesText (seen ++ late_line meant) meant end old new → (i : List ℕ) × IfSome known (λ k. i ≡ k) × WritesScript i end old new
script_read known meant end out seen old new e r w =
    (r.0, r.1, (meant, out ++ late_line meant, r.2, subst (λ (t : List ℕ). WritesText (t ++ late_line meant) meant end old new) e w))

pub script_known : (known : Option (List ℕ)) (end : ScriptEnd) (old new : Option (List ℕ)) → ((i : List ℕ) × IfSome known (λ k. i ≡ k) × WritesScript i end old new)
    → IfSome known (λ input. WritesScript input end old new)
script_known None end old new r = tt
script_known (Some k) end old new r = subst (λ (i : List ℕ). WritesScript i end old new) r.1 r.2

pub late_fault : (a b c : Option (List ℕ)) (xs ys late : List ℕ) → Appends a b xs → ys ≡ late → AppendsFront b c ys → AppendsFront a c (xs ++ late)
late_fault a b c xs ys late h e k = appends_two a b c xs late h (subst (λ (zs : List ℕ). AppendsFront b c zs) e k)

-- nothing was added before memory was refused
pub stays : (script : Script) (old : List ℕ) → Extends script Memory old old
stays script old = ([], sym (append-nil old), (0, refl))

-- a script that hands want of memory up ends so
pub refused : {E : Type 0} (script : Script) (r : Result ScriptEnd E) (old new : List ℕ) → is_err r ≡ true → Extends script Memory old new → Extends script (result_unwrap_or r Memory) old new
refused script (Ok e) old new h x = cc h
refused script (Err e) old new h x = x

-- a script ends with nothing more
pub is_done : (old : List ℕ) → Extends (ending Done) Done old old
is_done old = ([], sym (append-nil old), (refl, refl))

-- a reply line goes before the rest
adds_line : (script : Script) (end : ScriptEnd) (line added : List ℕ) → Adds script end added → Adds (replying_first line script) end (line ++ 10 ∷ added)
adds_line script Done line added a = (a.0, ap (λ t. line ++ 10 ∷ t) a.1)
adds_line script (Unreadable n) line added a = (a.0, ap (λ t. line ++ 10 ∷ t) a.1)
adds_line script Capacity line added a = (a.0, ap (λ t. line ++ 10 ∷ t) a.1)
adds_line script Memory line added a = (suc a.0, ap (λ t. line ++ 10 ∷ t) a.1)
adds_line script Fault line added a = absurd a

pub extends_line : (script : Script) (end : ScriptEnd) (line old new : List ℕ) → Extends script end (old ++ (line ++ 10 ∷ [])) new → Extends (replying_first line script) end old new
extends_line script end line old new x =
    (line ++ 10 ∷ x.0, x.1 ∙ simp append_assoc, adds_line script end line x.0 x.2)

-- the output stayed as it was
pub stays_by : (script : Script) (old new : List ℕ) → new ≡ old → Extends script Memory old new
stays_by script old new e = ([], e ∙ sym (append-nil old), (0, refl))

-- what the rest of a script makes of the output so far, the whole script makes of the first output
pub record GoesOn (whole : Script) (first : List ℕ) (rest : Script) (out : List ℕ) : Type 0 where
  pub on : (end : ScriptEnd) (new : List ℕ) → Extends rest end out new → Extends whole end first new

pub goes_on_first : (script : Script) (out : List ℕ) → GoesOn script out script out
goes_on_first script out = record { on = λ end new x. x }

pub goes_on : (whole rest : Script) (first out line out' : List ℕ) → GoesOn whole first (replying_first line rest) out → out' ≡ out ++ line ++ 10 ∷ [] → GoesOn whole first rest out'
goes_on whole rest first out line out' g e = record {
  on = λ end new x. g.on end new (extends_line rest end line out new (subst (λ (o : List ℕ). Extends rest end o new) (e ∙ append_assoc out line (10 ∷ [])) x));
}

-- a line that can be read
pub followed_more : (language : Language) (s t : ScriptScene) (n : ℕ) (lines rest : List (List ℕ)) (line reply : List ℕ) (command : Command) → lines ≡ line ∷ rest → Some command ≡ readable language n line → record { after = t; line = reply } ≡ obeyed s command
    → followed language s n lines ≡ replying_first reply (followed language t (n + 1) rest)
followed_more language s t n lines rest line reply command e r o = rw (e, ← r, ← o) refl

-- a script that opens a channel
pub opened_fits : (language : Language) (size : Option ℕ) (lines : List (List ℕ)) (scene : ScriptScene) → scene ≡ first_scene size → IfSome size (λ c. c ≤ 2 ^ 58)
    → opened language size lines ≡ replying_first (codes "ok") (followed language scene 2 lines)
opened_fits language None lines scene same h = rw same refl
opened_fits language (Some c) lines scene same h =
    let fits : nat_lt (2 ^ 58) c ≡ false = grind (arith, nat_tests) in
    rw (same, fits) refl
