-- What a control worker sends may be told in any run.
use Rattle.node_link.specs.declared.body.Body.{Body}
use Rattle.node_link.specs.declared.body.Body.TheVariants as says
use Rattle.reply_facts.specs.Letters.{TellsPlainly}
use Rattle.reply_facts.specs.Settings.{Setting}
use Rattle.node_worker.specs.ControlPosts.{IsOfControl}

pub control_tells : (run : Setting) (body : Body) → IsOfControl body → TellsPlainly run body
control_tells run (says.Request asked) is = absurd is
control_tells run (says.Start start) is = absurd is
control_tells run (says.Answer answered) is = absurd is
control_tells run (says.RootAnswer answered) is = absurd is
control_tells run _ is = tt
