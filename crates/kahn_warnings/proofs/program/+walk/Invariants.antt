-- The warnings and the places of the statements so far, where the first stands that isn't reached, and whether one never ends or is seen.
use Rattle.kahn_warnings.proofs.Common.{Scope, drop, first_unreached, flat_map, is_seen, list_any, never_ends, take, ◌++◌, ◌||◌, ◌≡◌}
use Rattle.kahn_warnings.proofs.{Folding.sites_of, Lists.each, Lists.is_so, Lists.left_unreached}
use Rattle.kahn_warnings.proofs.program.+walk.Given as goal

abbrev pub invariant-add_list-loop-statement : goal.invariant-add_list-loop-statement
invariant-add_list-loop-statement l = record {
  warnings : l.warnings.items ≡ l.initial.warnings.items ++ flat_map each (take l.statement-index l.statements);
  sites : l.sites.items ≡ l.initial.sites.items ++ flat_map sites_of (take l.statement-index l.statements);
  place : left_unreached l.ends l.place (drop l.statement-index l.statements) ≡ first_unreached l.statements;
  ends : (names : Scope) → l.ends || list_any (is_so never_ends names) (drop l.statement-index l.statements) ≡ list_any (is_so never_ends names) l.statements;
  seen : (names : Scope) → l.seen || list_any (is_so is_seen names) (drop l.statement-index l.statements) ≡ list_any (is_so is_seen names) l.statements;
}
