-- Words that are left on a line, and words of a language.
use Rattle.std.proofs.Common.{arith, ◌≡◌, ℕ, List, [], ◌∷◌, ◌++◌, length, nat_lt, codes, option_and_then, if◌then◌else◌, sym, ◌==◌, map, Bool, true, false, not, cond, is_some, option_copied, Option, None, Some, Bor, refl, ap, ◌∙◌}
use Rattle.std.specs.Bool.{then_some}
use Rattle.std.specs.List.{find}
use Rattle.std.specs.Option.{option_map}
use Rattle.std.specs.Str.{bytes_eq}
use Rattle.channel_world_language.specs.Command.{Command, Form, call_commands, for_word, parse, parsed, read, settle, that_is}
use Rattle.channel_world_language.specs.Language.{today}
use Rattle.std.proofs.lemmas.List.Splits.{length-slice_split}
use Rattle.std.proofs.lemmas.Bool.Decides.{nat_tests}
use Rattle.channel_world_language.specs.Said.{form_of}
use Rattle.channel_world_language.specs.Words.{words_of, words_after}
use Rattle.channel_world_language.specs.declared.command.Verb.{Verb}

-- after a space there is a word, if an empty one
words_left : (rest : List ℕ) → false ≡ (length (words_of rest) == 0)
words_left rest = grind (arith, nat_tests, length-slice_split (λ (b : ℕ). b == 32) rest)

-- what stands alone where there is no rest
pub kept_alone : {X : Type 0} (x : X) (rest : Option (Bor (List ℕ))) (b : Bool) → is_some rest ≡ not b → then_some b x ≡ read (that_is x) (words_after (option_copied rest))
kept_alone x None true h = refl
kept_alone x None false h = cc h
kept_alone x (Some r) true h = cc h
kept_alone x (Some r) false h = rw (← (words_left r.now)) refl

-- the first row of a word has its form
form_of_row : (word : List ℕ) (rows : List (Bor (List ℕ) × Verb)) → option_map form_of (option_map (λ r. r.1) (find (λ r. bytes_eq word r.0.now) rows)) ≡ for_word word (map (λ r. (r.0.now, form_of r.1)) rows)
form_of_row word [] = refl
form_of_row word (row ∷ rows) = by (bytes_eq word row.0.now) (form_of_row word rows)
  where
    by : (b : Bool) → option_map form_of (option_map (λ r. r.1) (find (λ r. bytes_eq word r.0.now) rows)) ≡ for_word word (map (λ r. (r.0.now, form_of r.1)) rows)
        → option_map form_of (option_map (λ r. r.1) (cond b (Some row) (find (λ r. bytes_eq word r.0.now) rows))) ≡ cond b (Some (form_of row.1)) (for_word word (map (λ r. (r.0.now, form_of r.1)) rows))
    by true on = refl
    by false on = on

-- the verb of the row that was found has the form of the word
pub form_of_found : (word : List ℕ) (rows : List (Bor (List ℕ) × Verb)) (forms : List (List ℕ × Form Command)) (row : Option (Bor (List ℕ) × Verb)) (verb : Option Verb)
    → row ≡ find (λ r. bytes_eq word r.0.now) rows → verb ≡ option_map (λ r. r.1) row → map (λ r. (r.0.now, form_of r.1)) rows ≡ forms → option_map form_of verb ≡ for_word word forms
form_of_found word rows forms row verb found its listed =
    ap (option_map form_of) (its ∙ ap (option_map (λ r. r.1)) found) ∙ (form_of_row word rows ∙ ap (for_word word) listed)

-- a word that has a form has the same beside further ones
for_word_front : {X : Type 0} (word : List ℕ) (rows more : List (List ℕ × X)) (x : X) → Some x ≡ for_word word rows → for_word word (rows ++ more) ≡ Some x
for_word_front word [] more x e = cc e
for_word_front {X} word (row ∷ rows) more x e = by (bytes_eq word row.0) e (for_word_front word rows more x)
  where
    by : (b : Bool) → Some x ≡ cond b (Some row.1) (for_word word rows) → (Some x ≡ for_word word rows → for_word word (rows ++ more) ≡ Some x)
        → cond b (Some row.1) (for_word word (rows ++ more)) ≡ Some x
    by true e on = sym e
    by false e on = on e

-- what a line says that begins with the word of a verb
pub line_says : (line word : List ℕ) (rest : List (List ℕ)) (verb : Verb) → nat_lt 200 (length line) ≡ false → words_of line ≡ word ∷ rest
    → Some (form_of verb) ≡ for_word word call_commands → parse today line ≡ read (form_of verb) rest
line_says line word rest verb short words form =
    ap (λ (b : Bool). if b then None else parsed today (words_of line)) short
    ∙ (ap (λ (ws : List (List ℕ)). parsed today ws) words
    ∙ ap (λ (o : Option (Form Command)). option_and_then (λ f. read f rest) o)
    (for_word_front word call_commands ((codes "settle", that_is settle) ∷ []) (form_of verb) form))
