-- `put_decimal`: the digits, put.
use Rattle.std.proofs.Common.{rules, ◌≤◌, Fits, w64, ◌∙◌, arith}
use Rattle.tape.proofs.Lines.{fewest_most, digits_decimal}
use Rattle.tape.proofs.text.Text.put_decimal.Goals as goal

pub returns-clause-text : goal.returns-clause-text
returns-clause-text g c =
    let k = c.decimal-k.result in
    let small : Fits w64 c.args.n = search rules in
    let few : k ≤ 20 = fewest_most 10 1 c.args.n k 20 (search rules) (search rules) (omega (arith, small.fits)) c.decimal-k.ensures.len in
    search (rules, c.decimal-k.ensures.digits ∙ digits_decimal k 20 c.args.n few c.decimal-k.ensures.len)
