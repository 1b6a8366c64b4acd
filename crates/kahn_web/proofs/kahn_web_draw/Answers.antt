use Rattle.kahn_web.proofs.Common.{[], string_bytes, inr, subst, IsChecked, IsPut}
use Rattle.kahn_graph.specs.Graph.{IsPicture}
use Rattle.kahn_web.proofs.kahn_web_draw.Goals as goal

pub returns-in-Ok-picture_text : goal.returns-in-Ok-picture_text
returns-in-Ok-picture_text c =
    let network = c.in-Ok-checked.network in
    let picture = c.in-Ok-picture_text.picture in
    inr (
      string_bytes picture,
      (
        network,
        subst (λ text. IsChecked text network) c.in-Ok.ensures.cases.0 c.in-Ok-checked.ensures,
        subst (λ source. IsPicture network source [] [] (string_bytes picture)) c.in-Ok.ensures.cases.0 c.in-Ok-picture_text.ensures,
      ),
      subst (λ bytes. IsPut bytes c.args.room.now c.put.new.room c.put.result) c.as_bytes.ensures.value c.put.ensures,
    )
