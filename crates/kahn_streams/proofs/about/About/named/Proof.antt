-- `named` makes a value of no bytes, whose ghost field is the value that its caller names.
use mathlib.Core.List.{◌∷◌, []}
use Rattle.std.proofs.Common.{refl}
use Rattle.std.proofs.raw_atomic.Walks.{proved}
use mir.Syntax.{Fn, a_type}
use mir.Val.{Val, vstruct, vcons, vnil}
use mir.MapTy.{inst_fn}
use base.Fml.{Fml, ftrue}
use contract.Running.{tables}
use types.Kit.{‵, raw, ◌⊛◌, ◌$◌, ◌∵◌, !, qed, move, keep, split, join, use0, suffices, done}
use types.Run.{no_more, and_then, returns, enter}
use types.ByLocal.{alloc_all, pass_all, free_all, look_at, get, sets}
use types.Part.{agg}
use denote.Param.{layouts}
use denote.Shadow.{makes_shadow}
use denote.Signature.{type_at}
use denote.Steps.{nothing}
use denote.Triple.Entry.{alive, Res}
use denote.Triple.Walked.{says, walk_of, ends_at}
use Rattle.kahn_streams.specs.contracts.about.About.named as f
use Rattle.kahn_streams.proofs.about.About.named.Statement.{statement}
use Rattle.kahn_streams.proofs.about.About.named.Code as code

pub named_spec : {M : Type 1} → statement M
named_spec 𝓤 𝓛 𝓜 𝓡 wired Y laws =
    let c = f.clauses Y 𝓛 𝓜.mem 𝓡.returns in let 𝓣 = tables 𝓤 𝓛.H 𝓜 𝓡 𝓡.env in
    let F : Fn = inst_fn (layouts (a_type ∷ []) (Y, tt)) code.function in
    proved 𝓛 (f.ended Y) tt c 𝓜 𝓡 tt
    (f.Key.name (layouts (a_type ∷ []) (Y, tt))) F (code.unfolded 𝓤 𝓛.H 𝓜 𝓡 wired (Y, tt))
    (λ κs. tt) (λ κs. tt) (λ κs qs bounds a n are.
    let W = walk_of 𝓛 (f.ended Y) tt c in
    let y : W.Ghost = ((κs, qs, bounds, a, tt), n) in
    let v : Val = vstruct (vcons (vstruct vnil) vnil) in
    let r : Res (f.ended Y).signature κs = record { marker = record {}; value = n } in
    let O : Fml = (type_at (f.ended Y).signature.result κs).own_val r (v ∷ []) in
    qed 𝓛 ((raw (alive 𝓛 (f.ended Y).signature κs qs) ⊛ ‵ ftrue) ∷ raw ((c κs a).requires n) ∷ []) ∵ split ! $ keep ! (0 ∷ []) $
    enter ! 𝓣.C 𝓣.Λ F [] _ $ alloc_all ! (λ l. pass_all ! refl tt $
    sets ! (agg ! (no_more !)) refl (tt, tt) $ sets ! (agg ! (and_then ! (get ! refl) (no_more !))) refl (tt, (tt, tt)) $
    returns ! (look_at ! 0 refl) $ free_all ! refl $
    use0 𝓛 (‵ O) (makes_shadow 𝓛 O ((λ vss. (tt, ((λ uss. (tt, tt)), tt))), tt) (((vstruct vnil ∷ [], tt), (refl, ((tt, (refl, tt)), tt))), tt)) $
    suffices ! _ (ends_at 𝓛 (f.ended Y) tt c y v r tt tt) $ says ! refl $
    nothing ! $ join ! $ move ! (1 ∷ 0 ∷ []) $ join ! $ done !))
