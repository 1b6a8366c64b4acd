use Rattle.kahn_explain.proofs.Common.{[], ◌∙◌, ap, inl, inr, refl, string_bytes, broke_off, went_out, notes_for}
use Rattle.kahn_explain.proofs.replies.reply_out.Goals as goal

pub returns-in-Err : goal.returns-in-Err
returns-in-Err g c = inr (c.in-Err.fault, refl, broke_off _ _ [] (string_bytes c.args.reply.text) (rw c.as_bytes.ensures.value at c.in-Err.ensures), refl)

pub returns : goal.returns
returns g c =
    let e = c.notes_for-notes.ensures ∙ ap (notes_for c.args.reply.came) c.as_str.ensures.value in
    inl (
      went_out _ _ [] (string_bytes c.args.reply.text) (rw c.as_bytes.ensures.value at c.in_default.ensures),
      rw (e, c.as_str-2.ensures.value) at c.write_both.ensures,
    )
