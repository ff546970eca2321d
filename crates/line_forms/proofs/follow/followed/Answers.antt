use Rattle.basics.specs.Words.{contents}
use Rattle.line_forms.proofs.Along.{front_few}
use Rattle.line_forms.proofs.follow.followed.Goals as goal

pub follow_on-requires : goal.follow_on-requires
follow_on-requires c = front_few (contents c.as_slice.result.now) c.args.words.now c.follow-front.result c.follow-front.ensures
