-- Each part is made as it is wanted.
use Rattle.std.proofs.Common.{refl}
use Rattle.live_tasks.proofs.wanted.Parts.of.Goals as goal

pub returns : goal.returns
returns c = record {
  place = refl;
  shows = c.page_in.ensures;
  headers = c.in_ok-headers.ensures;
  info = c.in_ok-info.ensures;
  request = c.in_ok-request.ensures;
  page = c.in_ok-page.ensures;
  work = c.in_ok-work.ensures;
}
