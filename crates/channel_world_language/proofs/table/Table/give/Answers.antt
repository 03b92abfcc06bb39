use Rattle.std.proofs.Common.{arith, ◌≡◌, ℕ, Option, ◌++◌, ◌∷◌, [], length, map, cond, Some, ◌∙◌, sym, ap, rules}
use Rattle.std.specs.Str.{bytes_eq}
use Rattle.std.specs.HashMap.{get_by}
use Rattle.std.proofs.lemmas.List.{length-map, map-append}
use Rattle.channel_world_language.specs.Words.{Name}
use Rattle.channel_world_language.specs.declared.table.Sort.{Sort}
use Rattle.channel_world_language.specs.Table.{Table, number_in}
use Rattle.channel_world_language.proofs.TableLemmas.{number_given}
use Rattle.channel_world_language.proofs.table.Table.give.Goals as goal

pub invariant_of-self-2 : goal.invariant_of-self-2
invariant_of-self-2 c name =
    let items : c.push_reserved.new.self.items ≡ c.self.inside.entries.items ++ (record { name = c.args.name; sort = c.args.sort }) ∷ [] = search rules in
    let grown : map (λ e. (e.name.now, e.sort)) c.push_reserved.new.self.items ≡ c.args.self.now ++ (c.args.name.now, c.args.sort) ∷ [] = simp (items, map-append, c.self.view_is) in
    let lengths : length {A = Name × Sort} (map (λ e. (e.name.now, e.sort)) c.self.inside.entries.items) ≡ length c.self.inside.entries.items = length-map c.self.inside.entries.items _ in
    let number : c.len-number.result ≡ length c.args.self.now = omega (arith, c.len-number.ensures, c.self.inside.entries.ok.0, lengths, ap length c.self.view_is) in
    let before : get_by (λ k. bytes_eq name k.now) c.self.inside.numbers ≡ number_in c.args.self.now name = c.self.invariant name ∙ ap (λ (t : Table). number_in t name) c.self.view_is in
    let updated : get_by (λ k. bytes_eq name k.now) c.insert.new.self ≡ cond (bytes_eq c.args.name.now name) (Some c.len-number.result) (get_by (λ k. bytes_eq name k.now) c.self.inside.numbers) = c.in_ok-insert.ensures.updates.0 (record { ref_ptr = c.args.name.ref_ptr; now = name }) in
    updated ∙ (ap (λ (n : ℕ). cond (bytes_eq c.args.name.now name) (Some n) (get_by (λ k. bytes_eq name k.now) c.self.inside.numbers)) number
    ∙ (ap (λ (o : Option ℕ). cond (bytes_eq c.args.name.now name) (Some (length c.args.self.now)) o) before
    ∙ (sym (number_given c.args.self.now c.args.name.now c.args.sort name c.requires.new) ∙ sym (ap (λ (t : Table). number_in t name) grown))))
