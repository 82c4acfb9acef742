-- `write_refusal`: the line of the refusal's number.
use Rattle.text_forms.proofs.Puts.{put_same}
use Rattle.sheet_texts.proofs.Texts.{refusal_text_lem}
use Rattle.sheet_write.proofs.write_refusal.Goals as goal

pub returns : goal.returns
returns c = put_same _ _ _ _ _ _ (refusal_text_lem _ _ c.from.ensures) c.write_refused.ensures
