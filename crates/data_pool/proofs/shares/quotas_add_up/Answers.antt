-- The quotas add up.
use Rattle.data_pool.proofs.Quotas.{add_up}
use Rattle.data_pool.proofs.shares.quotas_add_up.Goals as goal

pub returns : goal.returns
returns c = add_up
