use Rattle.run_cluster.proofs.jobs.Ground.add.Goals as goal

pub returns-clause-control : goal.returns-clause-control
returns-clause-control g c =
    let is = c.in_ok-control.ensures in
    (c.in_ok-control.control, c.in_ok-push.ensures.items, is.new, is.ends)

pub returns-clause-own : goal.returns-clause-own
returns-clause-own g c =
    let is = c.in_ok-datas.ensures in
    (c.in_ok-datas.datas, c.in_ok-keep.ensures, is.new, is.ends)
