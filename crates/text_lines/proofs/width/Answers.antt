-- `width`: the numbers of a pattern, counted.
use Rattle.std.proofs.Common.{◌≡◌, rules, sym, ◌∙◌}
use Rattle.std.specs.List.{count_by}
use Rattle.text_forms.specs.Patterns.{piece, is_number}
use Rattle.text_lines.proofs.Pattern.{count_fields}
use Rattle.text_lines.proofs.width.Goals as goal

pub returns : goal.returns
returns c = let e : c.count.result ≡ count_by (λ n. is_number (piece n)) c.args.pattern.now = search rules in e ∙ sym (count_fields c.args.pattern.now)
