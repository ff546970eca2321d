use Rattle.std.proofs.Common.{◌≤◌, length, arith}
use Rattle.explain_top.proofs.Telling.{put_few}
use Rattle.explain_top.proofs.answer.shorten.Goals as goal

pub returns-clause-few : goal.returns-clause-few
returns-clause-few c =
    let long : c.args.most ≤ length c.args.text.now = omega arith in
    put_few c.put.result c.args.most c.args.text.now c.keep.new.self c.put.new.self c.requires long c.keep.ensures c.put.ensures
