use Rattle.kahn_check.proofs.Common.{rules, ◌≡◌, ◌++◌, ◌∷◌, [], ap, ◌∙◌, sym, is_some, true, Some, None, bytes_eq, string_bytes, lookup, update, bytes_of}
use Rattle.std.proofs.lemmas.Map.Text.{hash_map_updates_text}
use Rattle.indexmap.specs.IndexMap.{get_by_text}
use Rattle.kahn_check.proofs.Listed.{new_found, still_found}
use Rattle.kahn_check.proofs.names.NameTable.keep.Goals as goal

pub invariant_of-self : goal.invariant_of-self
invariant_of-self g c =
    let y = bytes_of c.args.name.now in
    let old = c.self.inside in
    let listed : old.listed.value ++ (y, c.args.what) ∷ [] ≡ c.in_order-listed.result.value = ap (λ l. l ++ (y, c.args.what) ∷ []) c.self.view_is ∙ sym c.in_order-listed.ensures in
    let now : is_some (lookup (bytes_eq y) c.args.self.now) ≡ true = search rules in
    let there = ap (λ l. is_some (lookup (bytes_eq y) l)) c.self.view_is ∙ now in
    rw (← listed) (still_found old.listed.value (get_by_text old.by_text) y c.args.what there c.self.invariant)

pub invariant_of-self-2 : goal.invariant_of-self-2
invariant_of-self-2 g c =
    let y = bytes_of c.args.name.now in
    let what = c.args.what in
    let text = c.in_ok-text.text in
    let old = c.self.inside in
    let none : lookup (bytes_eq y) c.args.self.now ≡ None = search rules in
    let free : lookup (bytes_eq y) old.listed.value ≡ None = ap (lookup (bytes_eq y)) c.self.view_is ∙ none in
    let listed : old.listed.value ++ (y, what) ∷ [] ≡ c.in_order-longer.result.value = ap (λ l. l ++ (y, what) ∷ []) c.self.view_is ∙ sym c.in_order-longer.ensures in
    let named : string_bytes text ≡ y = c.in_ok-text.ensures.cases in
    rw (← listed)
    (new_found old.listed.value (get_by_text old.by_text) y what free c.self.invariant (get_by_text c.insert.new.self)
    (λ x. hash_map_updates_text (string_bytes text) old.by_text c.insert.new.self (Some what) c.in_ok-insert.ensures.updates x ∙ ap (λ z. update bytes_eq (get_by_text old.by_text) z (Some what) x) named))
