use Rattle.std.specs.Prelude.{◌≡◌, ◌∷◌, ◌<◌, ◌^◌}
use Rattle.channel_world_model.proofs.Words.{arith, ◌∙◌, ap, None, nat_eq, length, is_some, lookup}
use Rattle.channel_world_model.proofs.DirectoryLemmas.{no_value, put_new, nothing_displaced}
use Rattle.channel_world_model.proofs.directory.Directory.put.Goals.{in-Ok-None, in-Ok-Some, in-Err}
use Rattle.channel_world_model.proofs.directory.Directory.put.Goals as goal

pub returns-clause-ok : goal.returns-clause-ok
returns-clause-ok g c =
    let es = c.self.inside.entries.entries in
    let absent : lookup (nat_eq c.args.name) es ≡ None = no_value c.args.name es (ap (λ l. is_some (lookup (nat_eq c.args.name) l)) c.self.view_is ∙ c.requires) in
    let short : length es < 2 ^ 63 = omega (arith, c.len-length.ensures.len, c.len-length.ensures.fits) in
    elim c.match-push.branch [
      | in-Ok-None x ↦ rw x.result-is (ap (λ n. n.entries) x.in-Ok-None.ensures.entries ∙ (put_new c.args.name c.self.inside.entries c.args.x absent short c.self.invariant ∙ ap (λ l. (c.args.name, c.args.x) ∷ l) c.self.view_is))
      | in-Ok-Some x ↦ rw x.result-is tt
      | in-Err x ↦ rw x.result-is tt
    ]

pub returns-clause-err : goal.returns-clause-err
returns-clause-err g c =
    let es = c.self.inside.entries.entries in
    let absent : lookup (nat_eq c.args.name) es ≡ None = no_value c.args.name es (ap (λ l. is_some (lookup (nat_eq c.args.name) l)) c.self.view_is ∙ c.requires) in
    let short : length es < 2 ^ 63 = omega (arith, c.len-length.ensures.len, c.len-length.ensures.fits) in
    let none = nothing_displaced c.args.name c.self.inside.entries c.args.x absent short c.self.invariant in
    elim c.match-push.branch [
      | in-Ok-None x ↦ rw x.result-is tt
      | in-Ok-Some x ↦ let wrong = x.in-Ok-Some.ensures.old ∙ none in cc wrong
      | in-Err x ↦ rw x.result-is (ap (λ n. n.entries) x.in-Err.ensures.err ∙ c.self.view_is)
    ]

pub returns-clause-back : goal.returns-clause-back
returns-clause-back g c =
    let es = c.self.inside.entries.entries in
    let absent : lookup (nat_eq c.args.name) es ≡ None = no_value c.args.name es (ap (λ l. is_some (lookup (nat_eq c.args.name) l)) c.self.view_is ∙ c.requires) in
    let short : length es < 2 ^ 63 = omega (arith, c.len-length.ensures.len, c.len-length.ensures.fits) in
    let none = nothing_displaced c.args.name c.self.inside.entries c.args.x absent short c.self.invariant in
    elim c.match-push.branch [
      | in-Ok-None x ↦ rw x.result-is tt
      | in-Ok-Some x ↦ let wrong = x.in-Ok-Some.ensures.old ∙ none in cc wrong
      | in-Err x ↦ rw x.result-is (ap (λ p. p.1) x.in-Err.ensures.value_returned)
    ]
