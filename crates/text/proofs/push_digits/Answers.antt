-- One digit, and then the other.
use Rattle.std.proofs.Common.{string_bytes}
use Rattle.text.proofs.Each.{two_pushes}
use Rattle.text.proofs.push_digits.Goals as goal

pub returns : goal.returns
returns c =
    let a = c.push.ensures.ascii c.digit.ensures.ascii in
    let b = c.push-2.ensures.ascii c.digit-2.ensures.ascii in
    let p = c.in_ok-push.ensures.bytes in
    let q = c.in_ok-push-2.ensures.bytes in
    let t = two_pushes (string_bytes c.args.out.now) (string_bytes c.push.new.self) (string_bytes c.push-2.new.self) c.digit.result c.digit-2.result (cc) (cc) in
    cc
