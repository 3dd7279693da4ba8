-- `put_line`: three texts with spaces between them.
use Rattle.std.proofs.Common.{◌∷◌, ◌++◌, ◌∙◌}
use Rattle.io.specs.Digits.{last_digits}
use Rattle.tape.specs.Text.{decimal}
use Rattle.tape.proofs.Lines.{spaced, further, ended, same}
use Rattle.tape.proofs.text.Text.put_line.Goals as goal

pub returns-clause-text : goal.returns-clause-text
returns-clause-text g c =
    let x = c.args.self.now in
    let a = decimal c.args.kind in
    let b = decimal c.args.line.number in
    let d = last_digits 16 16 c.args.line.value in
    let two = spaced x a b c.put_decimal.ensures.text c.put_byte.ensures c.put_decimal-2.ensures.text in
    let three = further x a b d two c.put_byte-2.ensures c.put_hex.ensures.text in
    ended x a (b ++ (32 ∷ d)) three c.put_byte-3.ensures ∙ same x a b d
