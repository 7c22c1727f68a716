use Rattle.std.proofs.Common.{[], refl, subst}
use Rattle.moo_cli_web_page.specs.declared.page.TheConstants.{PAGE}
use Rattle.moo_cli_web_request.specs.Requests.{AsksFor}
use Rattle.moo_cli_web_request.specs.declared.request.Request.{Request}
use Rattle.moo_cli_web_request.specs.declared.request.Request.TheVariants as the
use Rattle.moo_cli_web_listener.proofs.caller.begin_answer.Goals as goal

pub returns-in-Page-clause-answers : goal.returns-in-Page-clause-answers
returns-in-Page-clause-answers c allowed bytes asks = (
  the.Page,
  subst (λ (asked : Request). AsksFor allowed bytes asked) c.in-Page.is asks,
  record { response = PAGE.now; sent = []; is_response = refl; all = refl },
)
