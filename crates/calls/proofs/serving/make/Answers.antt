-- The calls of the panel bring no reply.
use Rattle.std.proofs.Common.{rules}
use Rattle.unit.proofs.Histories.{panel_silent}
use Rattle.calls.proofs.serving.make.Goals as goal

pub returns-in-PanelSet-clause-buffer : goal.returns-in-PanelSet-clause-buffer
returns-in-PanelSet-clause-buffer g c = search (rules, panel_silent)

pub returns-in-PanelLock-clause-buffer : goal.returns-in-PanelLock-clause-buffer
returns-in-PanelLock-clause-buffer g c = search (rules, panel_silent)

pub returns-in-PanelUnlock-clause-buffer : goal.returns-in-PanelUnlock-clause-buffer
returns-in-PanelUnlock-clause-buffer g c = search (rules, panel_silent)
