use Rattle.kahn_session.proofs.Common.{[], arith, ◌≡◌, ◌∙◌, ◌<◌, ◌++◌, List, Some, append-nil, append_assoc, ap, length, map, refl, sym, subst, slice_get, slice_index_or, Appends-nil, Appends-trans, Appends, slice_get-get_or, Line, Channel, token_value, more_text, AppendsFront, fails, goes_on_front, stops}
use Rattle.kahn_session.proofs.Fresh.{is_line, moved_up, nothing_left, stale_up}
use Rattle.kahn_session.proofs.pace.put_news.Goals as goal

pub streams-init : goal.streams-init
streams-init g c = ([], refl, Appends-nil _, omega arith)

pub streams-smaller : goal.streams-smaller
streams-smaller g c = let a = c.in-Some.ensures.0 in let b = c.in-Some.ensures.1 in omega (arith, a, b)

pub write_news-requires : goal.write_news-requires
write_news-requires g c =
    let lines = c.args.lines.now in
    let i = c.in-Some.number in
    let below : i < length lines = c.in-Some.ensures.1 in
    let line = slice_index_or lines i (Channel 0) in
    is_line c.args.network.now c.args.run.now.flow.run i line c.requires.network
    (subst (λ (l : List Line). slice_get l i ≡ Some line) c.requires.lines (slice_get-get_or lines i (Channel 0) below))

pub returns-in_err-write_news : goal.returns-in_err-write_news
returns-in_err-write_news g c =
    let (done, split, gone, few) = c.streams.invariant in
    let up = moved_up c.args.network.now c.args.run.now.flow c.args.lines.now (Channel 0) c.streams.from c.in-Some.number c.fresh.result.now.items _ done c.requires.lines c.in-Some.ensures.0 c.in-Some.ensures.1
    c.in-Some.ensures.2 c.fresh.ensures split in
    fails _ _ _ _ c.from_residual.ensures.0 (subst (AppendsFront _ _) (sym up) (goes_on_front _ _ _ done _ gone (stops _ _ _ _ (rw c.values.ensures at c.in_err-write_news.ensures))))

pub streams-preserved : goal.streams-preserved
streams-preserved g c =
    let (done, split, gone, few) = c.streams.invariant in
    let up = moved_up c.args.network.now c.args.run.now.flow c.args.lines.now (Channel 0) c.streams.from c.in-Some.number c.fresh.result.now.items _ done c.requires.lines c.in-Some.ensures.0 c.in-Some.ensures.1
    c.in-Some.ensures.2 c.fresh.ensures split in
    let below : c.in-Some.number < length c.args.lines.now = c.in-Some.ensures.1 in
    let new = more_text c.args.network.now (slice_index_or c.args.lines.now c.in-Some.number (Channel 0)) (map token_value c.fresh.result.now.items) in
    (done ++ new, up ∙ sym (append_assoc done new _), Appends-trans _ _ _ done new gone (rw c.values.ensures at c.in_ok-write_news.ensures), omega (arith, below))

pub returns : goal.returns
returns g c =
    let (done, split, gone, few) = c.streams.invariant in
    let t = c.args.network.now in
    let f = c.args.run.now.flow in
    let lines = c.args.lines.now in
    let n = c.streams.from in
    let stale = c.in_default.ensures in
    subst (Appends _ _) (sym (split ∙ ap (λ (l : List _). done ++ l) (stale_up t f lines (Channel 0) c.requires.lines n (length lines) few (omega arith) stale ∙ nothing_left t f.run lines (map length f.out)) ∙ append-nil done)) gone
