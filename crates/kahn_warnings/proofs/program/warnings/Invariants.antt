-- The warnings of the comments, and those of the declarations so far; and those by indentation.
use Rattle.kahn_warnings.proofs.Common.{AreCommentWarnings, List, Warning, by_layout, declaration_warnings, flat_map, program_warnings, take, ◌++◌, ◌≡◌}
use Rattle.kahn_warnings.proofs.program.warnings.Given as goal

abbrev pub invariant-loop-declaration : goal.invariant-loop-declaration
invariant-loop-declaration l =
    (comments : List Warning) × AreCommentWarnings l.text comments
    × (l.warnings.items ≡ comments ++ flat_map (declaration_warnings l.program.instances.items) (take l.declaration-index l.program.declarations.items))

abbrev pub invariant-loop-span : goal.invariant-loop-span
invariant-loop-span l =
    (comments : List Warning) × AreCommentWarnings l.text comments
    × (l.warnings.items ≡ (comments ++ program_warnings l.program) ++ flat_map by_layout (take l.span-index l.span-items))
