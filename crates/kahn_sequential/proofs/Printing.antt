-- The lines that are still to come, and which processes print.
use Rattle.kahn_sequential.proofs.Common.{drop-cons, ◌≡◌, ℕ, zero, suc, ◌<◌, Bool, true, false, if◌then◌else◌, List, [], ◌∷◌, ◌++◌, length, drop, map, Option, Some, sym, ap, ◌∙◌, slice_get, append_assoc, cond, append-nil, Integer, Inner, Declaration, Process, Line, declaration_prints, process_prints, prints_in, Channel, Print, Schema, instance_at, idle, process_at, is_streamed, channel_lines, print_lines}
use Rattle.kahn_streams.specs.declared.tree.Declaration.TheVariants as D

-- ---- processes

-- what was asked of a declaration holds of the process that it declares
pub printed_at : (ds : List Declaration) (k : ℕ) (p : Process) → process_at ds k ≡ Some p → slice_get (map declaration_prints ds) k ≡ Some (process_prints p)
printed_at [] zero p h = cc
printed_at [] (suc k) p h = cc
printed_at (D.Channels kind role names ∷ ds) zero p h = cc
printed_at (D.Process q ∷ ds) zero p h = cc
printed_at (d ∷ ds) (suc k) p h = printed_at ds k p h

-- ---- lines

one_line : (b : Bool) (x : Line) (rest before after whole : List Line) → before ++ (if b then x ∷ rest else rest) ≡ whole → after ≡ before ++ cond b (x ∷ []) [] → after ++ rest ≡ whole
one_line true x rest before after whole e f = ap (λ l. l ++ rest) f ∙ (append_assoc before (x ∷ []) rest ∙ e)
one_line false x rest before after whole e f = ap (λ l. l ++ rest) (f ∙ append-nil before) ∙ e

pub channel_more : (N : Schema) (watch : Option ℕ) (c : ℕ) (before after whole : List Line) → c < length N.channels →
    before ++ channel_lines watch (drop c N.channels) c ≡ whole → after ≡ before ++ cond (is_streamed N watch c) (Channel c ∷ []) [] →
    after ++ channel_lines watch (drop (suc c) N.channels) (suc c) ≡ whole
channel_more N watch c before after whole l e f =
    one_line (is_streamed N watch c) (Channel c) (channel_lines watch (drop (suc c) N.channels) (suc c)) before after whole
    (ap (λ rows. before ++ channel_lines watch rows c) (sym (drop-cons N.channels c (Integer, Inner) l)) ∙ e) f

pub print_more : (N : Schema) (p : ℕ) (before after whole : List Line) → p < length N.instances →
    before ++ print_lines (drop p N.instances) p ≡ whole → after ≡ before ++ cond (prints_in (instance_at N p).body) (Print p ∷ []) [] →
    after ++ print_lines (drop (suc p) N.instances) (suc p) ≡ whole
print_more N p before after whole l e f =
    one_line (prints_in (instance_at N p).body) (Print p) (print_lines (drop (suc p) N.instances) (suc p)) before after whole
    (ap (λ is. before ++ print_lines is p) (sym (drop-cons N.instances p idle l)) ∙ e) f
