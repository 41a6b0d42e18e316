use Rattle.laws.proofs.WellFormed.{chart_hosts_answer_text}
use Rattle.laws.proofs.chart_hosts_answer_text.Goals as goal

pub returns : goal.returns
returns c = chart_hosts_answer_text
